-- A step of the paper's in our form, i^p X Z: it is the same step (`step_reads`), and it respects products, phases and the identity. Assumes nothing.
use Prim.Native.Nat.{ℕ, ◌+◌, ◌-◌, ◌*◌, ◌/◌, ◌%◌, ◌<◌}
use mathlib.Core.Path.{◌≡◌, refl, sym, ap, ap₂, ◌∙◌}
use mathlib.Core.Logic.{◌≢◌, inl, inr}
use mathlib.Core.List.{List, [], ◌∷◌, ◌++◌}
use native.Mathlib.Nat.{mod-lt, mul_comm}
use native.Mathlib.Omega.{arith}
use lib.Bits.{bit_and, bit_xor, and_comm}
use lib.Dec.{lit<}
use Rattle.model.specs.Pauli.{Pauli, has, count, times, shift, plain, quarter}
use Rattle.model.proofs.Digits.{has-lt, has-xor, has_zero, on_two_lem, on_pair, toggle, toggle_zero, has-toggle, has-toggle_other, toggle-xor, count-toggle}
use Rattle.model.proofs.Products.{m4_add, m4_cancel, m4_mod, m4_low, twice_mod, twice_bit, quarter_whole, Even}
use Rattle.paper.specs.Tableau.{bit, plus, add, Step, cnot, hadamard, phase, update, run}
use Rattle.paper.specs.Bridge.{to_row}

-- ---- the steps in our form

unfoldable pub conj_step : Step → Pauli → Pauli
conj_step (cnot a b) p = record {
  phase = (p.phase + 0) % 4;
  x = toggle p.x b (has p.x a);
  z = toggle p.z a (has p.z b);
}
conj_step (hadamard a) p = record {
  phase = (p.phase + 2 * (has p.x a * has p.z a)) % 4;
  x = toggle p.x a ((has p.x a + has p.z a) % 2);
  z = toggle p.z a ((has p.x a + has p.z a) % 2);
}
conj_step (phase a) p = record { phase = (p.phase + has p.x a) % 4; x = p.x; z = toggle p.z a (has p.x a) }

unfoldable pub conj : List Step → Pauli → Pauli
conj [] p = p
conj (s ∷ ss) p = conj ss (conj_step s p)

-- a CNOT is on two qubits
abbrev pub Apart : Step → Type 0
Apart (cnot a b) = a ≢ b
Apart (hadamard a) = Unit {0}
Apart (phase a) = Unit {0}

abbrev pub AllApart : List Step → Type 0
AllApart [] = Unit {0}
AllApart (s ∷ ss) = Apart s × AllApart ss

-- the sign bit that the paper adds
unfoldable pub flips : Step → Pauli → ℕ
flips (cnot a b) p = has p.x a * has p.z b * (((has p.x b + has p.z a) % 2 + 1) % 2)
flips (hadamard a) p = has p.x a * has p.z a
flips (phase a) p = has p.x a * has p.z a

-- ---- what a step does to the quarter

-- phases f and f', common sets of n and m qubits, and twice k between them
shifted : (f f' n m k : ℕ) → (f' + n) % 4 ≡ (f + 2 * k + m) % 4 → (f' + 4 - m % 4) % 4 ≡ ((f + 4 - n % 4) % 4 + 2 * k) % 4
shifted f f' n m k h =
    m4_low _ _ (m4_cancel _ _ (m + n) (
    ap (λ (w : ℕ). w % 4) (left ((f' + 4 - m % 4) % 4) m n) ∙ m4_add _ f' n n (quarter_whole f' m) refl ∙ h
    ∙ sym (ap (λ (w : ℕ). w % 4) (right ((f + 4 - n % 4) % 4) (2 * k) m n) ∙ m4_add _ f (2 * k + m) (2 * k + m) (quarter_whole f n) refl ∙ ap (λ (w : ℕ). w % 4) (sum f (2 * k) m))
    ∙ sym (m4_add _ ((f + 4 - n % 4) % 4 + 2 * k) (m + n) (m + n) (m4_mod _) refl)
    )) (mod-lt _ (lit< tt)) (mod-lt _ (lit< tt))
  where
    left : (q m n : ℕ) → q + (m + n) ≡ q + m + n
    left q m n = omega arith

    right : (q t m n : ℕ) → q + t + (m + n) ≡ q + n + (t + m)
    right q t m n = omega arith

    sum : (f t m : ℕ) → f + (t + m) ≡ f + t + m
    sum f t m = omega arith

-- Hadamard: the common set keeps its size. n, m, k: with neither, with Z changed, with both changed.
HCount : (xa za : ℕ) → Type 0
HCount xa za = (n m k : ℕ) → k + 2 * ((xa + za) % 2 * (xa * ((za + (xa + za) % 2) % 2))) ≡ m + (xa + za) % 2 * ((za + (xa + za) % 2) % 2)
    → m + 2 * ((xa + za) % 2 * (za * xa)) ≡ n + (xa + za) % 2 * xa → k ≡ n

h_count : (xa za : ℕ) → xa < 2 → za < 2 → HCount xa za
unfolding HCount
h_count = on_pair HCount (λ n m k p q. omega arith) (λ n m k p q. omega arith) (λ n m k p q. omega arith) (λ n m k p q. omega arith)

-- Phase: n and m, before and after
SCount : (xa za : ℕ) → Type 0
SCount xa za = (f n m : ℕ) → m + 2 * (xa * (za * xa)) ≡ n + xa * xa → ((f + xa) % 4 + n) % 4 ≡ (f + 2 * (xa * za) + m) % 4

s_count : (xa za : ℕ) → xa < 2 → za < 2 → SCount xa za
unfolding SCount
s_count = on_pair SCount (λ f n m p. omega arith) (λ f n m p. omega arith) (λ f n m p. omega arith) (λ f n m p. omega arith)

-- CNOT: n, m, k: with neither, with Z changed, with both changed
CCount : (xa zb xb za : ℕ) → Type 0
CCount xa zb xb za = (f n m k : ℕ) → k + 2 * (xa * (xb * zb)) ≡ m + xa * zb → m + 2 * (zb * (za * xa)) ≡ n + zb * xa
    → ((f + 0) % 4 + n) % 4 ≡ (f + 2 * (xa * zb * (((xb + za) % 2 + 1) % 2)) + k) % 4

c_count : (xb za : ℕ) → xb < 2 → za < 2 → (xa zb : ℕ) → xa < 2 → zb < 2 → CCount xa zb xb za
unfolding CCount
c_count xb za hx hz =
    on_pair (λ xa zb. CCount xa zb xb za) (λ f n m k p q. omega arith) (λ f n m k p q. omega arith) (λ f n m k p q. omega arith)
    (on_pair (λ xb za. CCount 1 1 xb za) (λ f n m k p q. omega arith) (λ f n m k p q. omega arith) (λ f n m k p q. omega arith) (λ f n m k p q. omega arith) xb za hx hz)

pub Step-quarter : (s : Step) (p : Pauli) → Apart s → quarter (conj_step s p) ≡ (quarter p + 2 * flips s p) % 4
unfolding quarter conj_step flips HCount SCount CCount
Step-quarter (cnot a b) p d =
    shifted p.phase ((p.phase + 0) % 4) (count (bit_and p.x p.z)) (count (bit_and (toggle p.x b xa) z')) (xa * zb * (((has p.x b + has p.z a) % 2 + 1) % 2))
    (c_count (has p.x b) (has p.z a) (has-lt p.x b) (has-lt p.z a) xa zb (has-lt p.x a) (has-lt p.z b) p.phase (count (bit_and p.x p.z)) (count (bit_and p.x z')) (count (bit_and (toggle p.x b xa) z'))
    (ap (λ (w : ℕ). count (bit_and (toggle p.x b xa) z') + 2 * (xa * (has p.x b * w))) (sym same) ∙ count-toggle p.x z' b xa (has-lt p.x a) ∙ ap (λ (w : ℕ). count (bit_and p.x z') + xa * w) same)
    (ap (λ (w : ℕ). count w + 2 * (zb * (has p.z a * xa))) (and_comm p.x z') ∙ count-toggle p.z p.x a zb (has-lt p.z b) ∙ ap (λ (w : ℕ). count w + zb * xa) (and_comm p.z p.x)))
  where
    xa : ℕ
    xa = has p.x a

    zb : ℕ
    zb = has p.z b

    z' : ℕ
    z' = toggle p.z a zb

    same : has z' b ≡ zb
    same = has-toggle_other p.z a zb b (has-lt p.z b) d
Step-quarter (hadamard a) p d =
    shifted p.phase ((p.phase + 2 * (xa * za)) % 4) (count (bit_and p.x p.z)) (count (bit_and (toggle p.x a t) z')) (xa * za) (
    ap (λ (w : ℕ). ((p.phase + 2 * (xa * za)) % 4 + w) % 4) (sym size) ∙ m4_add ((p.phase + 2 * (xa * za)) % 4) (p.phase + 2 * (xa * za)) _ _ (m4_mod _) refl
    )
  where
    xa : ℕ
    xa = has p.x a

    za : ℕ
    za = has p.z a

    t : ℕ
    t = (xa + za) % 2

    t_lt : t < 2
    t_lt = mod-lt _ (lit< tt)

    z' : ℕ
    z' = toggle p.z a t

    now : has z' a ≡ (za + t) % 2
    now = has-toggle p.z a t t_lt

    size : count (bit_and (toggle p.x a t) z') ≡ count (bit_and p.x p.z)
    size =
        h_count xa za (has-lt p.x a) (has-lt p.z a) (count (bit_and p.x p.z)) (count (bit_and p.x z')) (count (bit_and (toggle p.x a t) z'))
        (ap (λ (w : ℕ). count (bit_and (toggle p.x a t) z') + 2 * (t * (xa * w))) (sym now) ∙ count-toggle p.x z' a t t_lt ∙ ap (λ (w : ℕ). count (bit_and p.x z') + t * w) now)
        (ap (λ (w : ℕ). count w + 2 * (t * (za * xa))) (and_comm p.x z') ∙ count-toggle p.z p.x a t t_lt ∙ ap (λ (w : ℕ). count w + t * xa) (and_comm p.z p.x))
Step-quarter (phase a) p d =
    shifted p.phase ((p.phase + xa) % 4) (count (bit_and p.x p.z)) (count (bit_and p.x z')) (xa * za)
    (s_count xa za (has-lt p.x a) (has-lt p.z a) p.phase (count (bit_and p.x p.z)) (count (bit_and p.x z'))
    (ap (λ (w : ℕ). count w + 2 * (xa * (za * xa))) (and_comm p.x z') ∙ count-toggle p.z p.x a xa (has-lt p.x a) ∙ ap (λ (w : ℕ). count w + xa * xa) (and_comm p.z p.x)))
  where
    xa : ℕ
    xa = has p.x a

    za : ℕ
    za = has p.z a

    z' : ℕ
    z' = toggle p.z a xa

-- ---- the same step

times_lt : (a b : ℕ) → a < 2 → b < 2 → a * b < 2
times_lt = on_pair (λ a b. a * b < 2) (lit< tt) (lit< tt) (lit< tt) (lit< tt)

flips-lt : (s : Step) (p : Pauli) → flips s p < 2
unfolding flips
flips-lt (cnot a b) p = times_lt _ _ (times_lt _ _ (has-lt p.x a) (has-lt p.z b)) (mod-lt _ (lit< tt))
flips-lt (hadamard a) p = times_lt _ _ (has-lt p.x a) (has-lt p.z a)
flips-lt (phase a) p = times_lt _ _ (has-lt p.x a) (has-lt p.z a)

-- a sign bit more
half_flip : (q f : ℕ) → Even q → f < 2 → (q + 2 * f) % 4 / 2 ≡ (q / 2 + f) % 2
half_flip q f (inl e) h = rw e (on_two_lem (λ f. (0 + 2 * f) % 4 / 2 ≡ (0 / 2 + f) % 2) refl refl f h)
half_flip q f (inr e) h = rw e (on_two_lem (λ f. (2 + 2 * f) % 4 / 2 ≡ (2 / 2 + f) % 2) refl refl f h)

Even-flip : (q f : ℕ) → Even q → f < 2 → Even ((q + 2 * f) % 4)
Even-flip q f (inl e) h = rw e (on_two_lem (λ f. Even ((0 + 2 * f) % 4)) (inl refl) (inr refl) f h)
Even-flip q f (inr e) h = rw e (on_two_lem (λ f. Even ((2 + 2 * f) % 4)) (inr refl) (inl refl) f h)

pub Step-Even : (s : Step) (p : Pauli) → Apart s → Even (quarter p) → Even (quarter (conj_step s p))
Step-Even s p d e = rw (Step-quarter s p d) (Even-flip (quarter p) (flips s p) e (flips-lt s p))

sign_bit : (s : Step) (p : Pauli) → Apart s → Even (quarter p) → quarter (conj_step s p) / 2 ≡ (quarter p / 2 + flips s p) % 2
sign_bit s p d e = ap (λ (w : ℕ). w / 2) (Step-quarter s p d) ∙ half_flip (quarter p) (flips s p) e (flips-lt s p)

pub step_reads : (s : Step) (p : Pauli) → Apart s → Even (quarter p) → to_row (conj_step s p) ≡ update s (to_row p)
unfolding to_row update conj_step flips toggle add plus has bit
step_reads (cnot a b) p d e = λ i. record { r = sign_bit (cnot a b) p d e i; x = (conj_step (cnot a b) p).x; z = (conj_step (cnot a b) p).z }
step_reads (hadamard a) p d e = λ i. record { r = sign_bit (hadamard a) p d e i; x = (conj_step (hadamard a) p).x; z = (conj_step (hadamard a) p).z }
step_reads (phase a) p d e = λ i. record { r = sign_bit (phase a) p d e i; x = p.x; z = (conj_step (phase a) p).z }

pub conj_reads : (c : List Step) (p : Pauli) → AllApart c → Even (quarter p) → to_row (conj c p) ≡ run c (to_row p)
unfolding conj run
conj_reads [] p d e = refl
conj_reads (s ∷ ss) p d e = conj_reads ss (conj_step s p) d.1 (Step-Even s p d.0 e) ∙ ap (run ss) (step_reads s p d.0 e)

pub conj-Even : (c : List Step) (p : Pauli) → AllApart c → Even (quarter p) → Even (quarter (conj c p))
unfolding conj
conj-Even [] p d e = e
conj-Even (s ∷ ss) p d e = conj-Even ss (conj_step s p) d.1 (Step-Even s p d.0 e)

-- ---- products

-- the crossings of a product, modulo 2
crossing : (c k t u : ℕ) → k + 2 * t ≡ c + u → k % 2 ≡ (c + u) % 2
crossing c k t u e = omega arith

-- The phase of a product of f and g with c crossings, and w more; and that of the images, with u and v more and k crossings, of which e are new.
phase_law : (f g c k u v w e : ℕ) → k % 2 ≡ (c + e) % 2 → w % 4 ≡ (u + v + 2 * e) % 4
    → ((f + g + 2 * (c % 2)) % 4 + w) % 4 ≡ ((f + u) % 4 + (g + v) % 4 + 2 * (k % 2)) % 4
phase_law f g c k u v w e hk hw =
    m4_add ((f + g + 2 * (c % 2)) % 4) (f + g + 2 * c) w (u + v + 2 * e) (m4_mod _ ∙ m4_add (f + g) (f + g) (2 * (c % 2)) (2 * c) refl (twice_bit c)) hw
    ∙ ap (λ (y : ℕ). y % 4) (line f g c u v e)
    ∙ sym (m4_add ((f + u) % 4 + (g + v) % 4) (f + u + (g + v)) (2 * (k % 2)) (2 * (c + e)) (m4_add ((f + u) % 4) (f + u) ((g + v) % 4) (g + v) (m4_mod (f + u)) (m4_mod (g + v)))
    (twice_bit k ∙ twice_mod k (c + e) hk))
  where
    line : (f g c u v e : ℕ) → f + g + 2 * c + (u + v + 2 * e) ≡ f + u + (g + v) + 2 * (c + e)
    line f g c u v e = omega arith

-- what is new, by the digits of the two factors at the changed place: for Phase, and for Hadamard, where t and u are the changes
s_new : (xa ya : ℕ) → xa < 2 → ya < 2 → (xa + ya) % 2 % 4 ≡ (xa + ya + 2 * (xa * ya)) % 4
s_new = on_pair (λ xa ya. (xa + ya) % 2 % 4 ≡ (xa + ya + 2 * (xa * ya)) % 4) refl refl refl refl

HNew : (x1 z1 x2 z2 : ℕ) → Type 0
HNew x1 z1 x2 z2 = 2 * ((x1 + x2) % 2 * ((z1 + z2) % 2)) % 4
    ≡ (2 * (x1 * z1) + 2 * (x2 * z2) + 2 * ((x2 + z2) % 2 * z1 + (x1 + z1) % 2 * ((x2 + (x2 + z2) % 2) % 2))) % 4

h_new : (x1 z1 x2 z2 : ℕ) → x1 < 2 → z1 < 2 → x2 < 2 → z2 < 2 → HNew x1 z1 x2 z2
unfolding HNew
h_new x1 z1 x2 z2 a b c d =
    on_pair (λ x1 z1. HNew x1 z1 x2 z2) (on_pair (HNew 0 0) refl refl refl refl x2 z2 c d) (on_pair (HNew 0 1) refl refl refl refl x2 z2 c d)
    (on_pair (HNew 1 0) refl refl refl refl x2 z2 c d) (on_pair (HNew 1 1) refl refl refl refl x2 z2 c d) x1 z1 a b

-- the change of a product is the sum of the changes
h_change : (x1 z1 x2 z2 : ℕ) → ((x1 + x2) % 2 + (z1 + z2) % 2) % 2 ≡ ((x1 + z1) % 2 + (x2 + z2) % 2) % 2
h_change x1 z1 x2 z2 = two (x1 + x2) (z1 + z2) ∙ ap (λ (w : ℕ). w % 2) (line x1 z1 x2 z2) ∙ sym (two (x1 + z1) (x2 + z2))
  where
    two : (a b : ℕ) → (a % 2 + b % 2) % 2 ≡ (a + b) % 2
    two a b = omega arith

    line : (x1 z1 x2 z2 : ℕ) → x1 + x2 + (z1 + z2) ≡ x1 + z1 + (x2 + z2)
    line x1 z1 x2 z2 = omega arith

-- crossings of changed sets: first the one, then the other
both_new : (c m k s t u v : ℕ) → k + 2 * s ≡ m + u → m + 2 * t ≡ c + v → k % 2 ≡ (c + (v + u)) % 2
both_new c m k s t u v p q = omega arith

pub Step-times : (s : Step) (p q : Pauli) → Apart s → conj_step s (times p q) ≡ times (conj_step s p) (conj_step s q)
unfolding conj_step times
Step-times (cnot a b) p q d = λ i. record {
  phase = phases i;
  x = sets p.x q.x b a i;
  z = sets p.z q.z a b i;
}
  where
    sets : (u v j k : ℕ) → toggle (bit_xor u v) j (has (bit_xor u v) k) ≡ bit_xor (toggle u j (has u k)) (toggle v j (has v k))
    sets u v j k = ap (toggle (bit_xor u v) j) (has-xor u v k) ∙ toggle-xor u v j (has u k) (has v k) (has-lt u k) (has-lt v k)

    x' : ℕ
    x' = toggle q.x b (has q.x a)

    same : has x' a ≡ has q.x a
    same = has-toggle_other q.x b (has q.x a) a (has-lt q.x a) (λ e. d (sym e))

    even : (c w : ℕ) → (c + (w + w)) % 2 ≡ (c + 0) % 2
    even c w = omega arith

    new : count (bit_and (toggle p.z a (has p.z b)) x') % 2 ≡ (count (bit_and p.z q.x) + 0) % 2
    new =
        both_new (count (bit_and p.z q.x)) (count (bit_and p.z x')) (count (bit_and (toggle p.z a (has p.z b)) x')) _ _ (has q.x a * has p.z b) (has q.x a * has p.z b)
        (count-toggle p.z x' a (has p.z b) (has-lt p.z b) ∙ ap (λ (w : ℕ). count (bit_and p.z x') + w) (ap (λ (w : ℕ). has p.z b * w) same ∙ mul_comm (has p.z b) (has q.x a)))
        (ap (λ (w : ℕ). count w + 2 * (has q.x a * (has q.x b * has p.z b))) (and_comm p.z x') ∙ count-toggle q.x p.z b (has q.x a) (has-lt q.x a)
        ∙ ap (λ (w : ℕ). count w + has q.x a * has p.z b) (and_comm q.x p.z))
        ∙ even (count (bit_and p.z q.x)) (has q.x a * has p.z b)

    phases : (conj_step (cnot a b) (times p q)).phase ≡ (times (conj_step (cnot a b) p) (conj_step (cnot a b) q)).phase
    phases = phase_law p.phase q.phase (count (bit_and p.z q.x)) (count (bit_and (toggle p.z a (has p.z b)) x')) 0 0 0 0 new refl
Step-times (hadamard a) p q d = λ i. record {
  phase = phases i;
  x = sets p.x q.x i;
  z = sets p.z q.z i;
}
  where
    t : ℕ
    t = (has p.x a + has p.z a) % 2

    t_lt : t < 2
    t_lt = mod-lt _ (lit< tt)

    u : ℕ
    u = (has q.x a + has q.z a) % 2

    u_lt : u < 2
    u_lt = mod-lt _ (lit< tt)

    sets : (v w : ℕ) → toggle (bit_xor v w) a ((has (bit_xor p.x q.x) a + has (bit_xor p.z q.z) a) % 2) ≡ bit_xor (toggle v a t) (toggle w a u)
    sets v w =
        ap₂ (λ (y z : ℕ). toggle (bit_xor v w) a ((y + z) % 2)) (has-xor p.x q.x a) (has-xor p.z q.z a)
        ∙ ap (toggle (bit_xor v w) a) (h_change (has p.x a) (has p.z a) (has q.x a) (has q.z a)) ∙ toggle-xor v w a t u t_lt u_lt

    x' : ℕ
    x' = toggle q.x a u

    now : has x' a ≡ (has q.x a + u) % 2
    now = has-toggle q.x a u u_lt

    new : count (bit_and (toggle p.z a t) x') % 2 ≡ (count (bit_and p.z q.x) + (u * has p.z a + t * ((has q.x a + u) % 2))) % 2
    new =
        both_new (count (bit_and p.z q.x)) (count (bit_and p.z x')) (count (bit_and (toggle p.z a t) x')) _ _ (t * ((has q.x a + u) % 2)) (u * has p.z a)
        (count-toggle p.z x' a t t_lt ∙ ap (λ (w : ℕ). count (bit_and p.z x') + t * w) now)
        (ap (λ (w : ℕ). count w + 2 * (u * (has q.x a * has p.z a))) (and_comm p.z x') ∙ count-toggle q.x p.z a u u_lt
        ∙ ap (λ (w : ℕ). count w + u * has p.z a) (and_comm q.x p.z))

    phases : (conj_step (hadamard a) (times p q)).phase ≡ (times (conj_step (hadamard a) p) (conj_step (hadamard a) q)).phase
    phases =
        ap₂ (λ (y z : ℕ). ((times p q).phase + 2 * (y * z)) % 4) (has-xor p.x q.x a) (has-xor p.z q.z a)
        ∙ phase_law p.phase q.phase (count (bit_and p.z q.x)) (count (bit_and (toggle p.z a t) x')) (2 * (has p.x a * has p.z a)) (2 * (has q.x a * has q.z a)) _ _
        new (unfold HNew in h_new (has p.x a) (has p.z a) (has q.x a) (has q.z a) (has-lt p.x a) (has-lt p.z a) (has-lt q.x a) (has-lt q.z a))
Step-times (phase a) p q d = λ i. record {
  phase = phases i;
  x = bit_xor p.x q.x;
  z = sets i;
}
  where
    xa : ℕ
    xa = has p.x a

    ya : ℕ
    ya = has q.x a

    sets : toggle (bit_xor p.z q.z) a (has (bit_xor p.x q.x) a) ≡ bit_xor (toggle p.z a xa) (toggle q.z a ya)
    sets = ap (toggle (bit_xor p.z q.z) a) (has-xor p.x q.x a) ∙ toggle-xor p.z q.z a xa ya (has-lt p.x a) (has-lt q.x a)

    new : count (bit_and (toggle p.z a xa) q.x) % 2 ≡ (count (bit_and p.z q.x) + xa * ya) % 2
    new = crossing (count (bit_and p.z q.x)) _ _ (xa * ya) (count-toggle p.z q.x a xa (has-lt p.x a))

    phases : (conj_step (phase a) (times p q)).phase ≡ (times (conj_step (phase a) p) (conj_step (phase a) q)).phase
    phases =
        ap (λ (w : ℕ). ((times p q).phase + w) % 4) (has-xor p.x q.x a)
        ∙ phase_law p.phase q.phase (count (bit_and p.z q.x)) (count (bit_and (toggle p.z a xa) q.x)) xa ya ((xa + ya) % 2) (xa * ya) new
        (s_new xa ya (has-lt p.x a) (has-lt q.x a))

-- ---- phases, and the identity

pub Step-shift : (s : Step) (k : ℕ) (p : Pauli) → conj_step s (shift k p) ≡ shift k (conj_step s p)
unfolding conj_step shift
Step-shift (cnot a b) k p = λ i. record { phase = law p.phase 0 i; x = toggle p.x b (has p.x a); z = toggle p.z a (has p.z b) }
  where
    law : (f u : ℕ) → ((f + k) % 4 + u) % 4 ≡ ((f + u) % 4 + k) % 4
    law f u = omega arith
Step-shift (hadamard a) k p = λ i. record {
  phase = law p.phase (2 * (has p.x a * has p.z a)) i;
  x = toggle p.x a ((has p.x a + has p.z a) % 2);
  z = toggle p.z a ((has p.x a + has p.z a) % 2);
}
  where
    law : (f u : ℕ) → ((f + k) % 4 + u) % 4 ≡ ((f + u) % 4 + k) % 4
    law f u = omega arith
Step-shift (phase a) k p = λ i. record { phase = law p.phase (has p.x a) i; x = p.x; z = toggle p.z a (has p.x a) }
  where
    law : (f u : ℕ) → ((f + k) % 4 + u) % 4 ≡ ((f + u) % 4 + k) % 4
    law f u = omega arith

pub Step-plain : (s : Step) → conj_step s plain ≡ plain
unfolding conj_step plain
Step-plain (cnot a b) = λ i. record { phase = 0; x = none b a i; z = none a b i }
  where
    none : (j k : ℕ) → toggle 0 j (has 0 k) ≡ 0
    none j k = ap (toggle 0 j) (has_zero k) ∙ toggle_zero 0 j
Step-plain (hadamard a) = λ i. record { phase = phases i; x = none i; z = none i }
  where
    phases : (0 + 2 * (has 0 a * has 0 a)) % 4 ≡ 0
    phases = ap (λ (w : ℕ). (0 + 2 * (w * w)) % 4) (has_zero a)

    none : toggle 0 a ((has 0 a + has 0 a) % 2) ≡ 0
    none = ap (λ (w : ℕ). toggle 0 a ((w + w) % 2)) (has_zero a) ∙ toggle_zero 0 a
Step-plain (phase a) = λ i. record { phase = (ap (λ (w : ℕ). (0 + w) % 4) (has_zero a)) i; x = 0; z = (ap (toggle 0 a) (has_zero a) ∙ toggle_zero 0 a) i }

-- ---- circuits

pub conj-times : (c : List Step) → AllApart c → (p q : Pauli) → conj c (times p q) ≡ times (conj c p) (conj c q)
unfolding conj
conj-times [] d p q = refl
conj-times (s ∷ ss) d p q = ap (conj ss) (Step-times s p q d.0) ∙ conj-times ss d.1 (conj_step s p) (conj_step s q)

pub conj-shift : (c : List Step) (k : ℕ) (p : Pauli) → conj c (shift k p) ≡ shift k (conj c p)
unfolding conj
conj-shift [] k p = refl
conj-shift (s ∷ ss) k p = ap (conj ss) (Step-shift s k p) ∙ conj-shift ss k (conj_step s p)

pub conj-plain : (c : List Step) → conj c plain ≡ plain
unfolding conj
conj-plain [] = refl
conj-plain (s ∷ ss) = ap (conj ss) (Step-plain s) ∙ conj-plain ss

pub conj-append : (b c : List Step) (p : Pauli) → conj (b ++ c) p ≡ conj c (conj b p)
unfolding conj
conj-append [] c p = refl
conj-append (s ∷ b) c p = conj-append b c (conj_step s p)
