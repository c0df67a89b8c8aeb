-- The product is associative, and the sign of a product of commuting rows from the signs of its factors. Assumes nothing.
use Prim.Native.Nat.{ℕ, zero, suc, ◌+◌, ◌-◌, ◌*◌, ◌%◌, ◌<◌}
use mathlib.Core.Path.{◌≡◌, refl, sym, ap, ap₂, ◌∙◌}
use mathlib.Core.Logic.{◌⊎◌, inl, inr}
use native.Mathlib.Nat.{mod-lt}
use native.Mathlib.Omega.{arith}
use lib.Bits.{bit_and, bit_xor, and_comm, xor_self}
use lib.IntN.{ℤ, pos, ◌*ℤ◌}
use lib.Dec.{lit<}
use Rattle.model.specs.Pauli.{Pauli, count, times, quarter, sign_of, sign, anti}
use Rattle.model.specs.Demands.{IsSign, HasSign, positive}
use Rattle.model.proofs.Counts.{xor_assoc, count_zero}
use Rattle.model.proofs.Parity.{parity, parity_r, anti_self, quarter-times}

-- ---- sums modulo 4, a step at a time: `omega` gives up on many remainders at once

pub m4_add : (a b c d : ℕ) → a % 4 ≡ b % 4 → c % 4 ≡ d % 4 → (a + c) % 4 ≡ (b + d) % 4
m4_add a b c d p q = omega arith

pub m4_cancel : (a b w : ℕ) → (a + w) % 4 ≡ (b + w) % 4 → a % 4 ≡ b % 4
m4_cancel a b w p = omega arith

pub m4_mod : (a : ℕ) → a % 4 % 4 ≡ a % 4
m4_mod a = omega arith

pub m4_low : (a b : ℕ) → a % 4 ≡ b % 4 → a < 4 → b < 4 → a ≡ b
m4_low a b p h k = omega arith

-- twice a number, from its parity
pub twice_mod : (u v : ℕ) → u % 2 ≡ v % 2 → 2 * u % 4 ≡ 2 * v % 4
twice_mod u v p = omega arith

pub twice_bit : (u : ℕ) → 2 * (u % 2) % 4 ≡ 2 * u % 4
twice_bit u = omega arith

-- ---- associative

-- the phase of a product of products
phases : (f g h u e : ℕ) → ((f + g + 2 * (u % 2)) % 4 + h + 2 * (e % 2)) % 4 ≡ (f + g + h + (2 * u + 2 * e)) % 4
phases f g h u e =
    m4_add ((f + g + 2 * (u % 2)) % 4 + h) (f + g + 2 * u + h) (2 * (e % 2)) (2 * e)
    (m4_add ((f + g + 2 * (u % 2)) % 4) (f + g + 2 * u) h h (m4_mod _ ∙ m4_add (f + g) (f + g) (2 * (u % 2)) (2 * u) refl (twice_bit u)) refl) (twice_bit e)
    ∙ ap (λ (w : ℕ). w % 4) line
  where
    line : f + g + 2 * u + h + 2 * e ≡ f + g + h + (2 * u + 2 * e)
    line = omega arith

-- crossings u of a with b, v of b with c, w of a with c: those of a·b with c are e, those of a with b·c are f
crossed : (u v w e f : ℕ) → e % 2 ≡ (w + v) % 2 → f % 2 ≡ (u + w) % 2 → (2 * u + 2 * e) % 4 ≡ (2 * v + 2 * f) % 4
crossed u v w e f p q =
    m4_add (2 * u) (2 * u) (2 * e) (2 * (w + v)) refl (twice_mod e (w + v) p) ∙ ap (λ (y : ℕ). y % 4) line
    ∙ sym (m4_add (2 * v) (2 * v) (2 * f) (2 * (u + w)) refl (twice_mod f (u + w) q))
  where
    line : 2 * u + 2 * (w + v) ≡ 2 * v + 2 * (u + w)
    line = omega arith

assoc_phase : (f g h u v w d e : ℕ) → d % 2 ≡ (w + v) % 2 → e % 2 ≡ (u + w) % 2
    → ((f + g + 2 * (u % 2)) % 4 + h + 2 * (d % 2)) % 4 ≡ (f + (g + h + 2 * (v % 2)) % 4 + 2 * (e % 2)) % 4
assoc_phase f g h u v w d e p q =
    phases f g h u d ∙ m4_add (f + g + h) (f + g + h) (2 * u + 2 * d) (2 * v + 2 * e) refl (crossed u v w d e p q)
    ∙ ap (λ (y : ℕ). (y + (2 * v + 2 * e)) % 4) (turn f g h) ∙ sym (phases g h f v e) ∙ ap (λ (y : ℕ). (y + 2 * (e % 2)) % 4) (swap ((g + h + 2 * (v % 2)) % 4) f)
  where
    turn : (f g h : ℕ) → f + g + h ≡ g + h + f
    turn f g h = omega arith

    swap : (a b : ℕ) → a + b ≡ b + a
    swap a b = omega arith

pub times_assoc : (a b c : Pauli) → times (times a b) c ≡ times a (times b c)
unfolding times
times_assoc a b c = λ i. record { phase = line i; x = xor_assoc a.x b.x c.x i; z = xor_assoc a.z b.z c.z i }
  where
    line : (times (times a b) c).phase ≡ (times a (times b c)).phase
    line =
        assoc_phase a.phase b.phase c.phase (count (bit_and a.z b.x)) (count (bit_and b.z c.x)) (count (bit_and a.z c.x))
        (count (bit_and (bit_xor a.z b.z) c.x)) (count (bit_and a.z (bit_xor b.x c.x)))
        (parity a.z b.z c.x) (parity_r b.x c.x a.z)

-- ---- signs

-- the quarter and the qubits in both sets make the phase
pub quarter_whole : (f n : ℕ) → ((f + 4 - n % 4) % 4 + n) % 4 ≡ f % 4
quarter_whole f n = omega arith

pub quarter-lt : (p : Pauli) → quarter p < 4
unfolding quarter
quarter-lt p = mod-lt _ (lit< tt)

-- what a product adds to the quarters of its factors depends on their axes alone
sums : (f g c m n w q r k t : ℕ) → (q + m) % 4 ≡ f % 4 → (r + n) % 4 ≡ g % 4 → (k + w) % 4 ≡ (m % 4 + n % 4 + c) % 4 % 4 → (t + w) % 4 ≡ (f + g + c) % 4 % 4
    → t % 4 ≡ (q + r + k) % 4
sums f g c m n w q r k t hq hr hk ht =
    m4_cancel t (q + r + k) w
    (ht ∙ m4_mod (f + g + c)
    ∙ m4_add (f + g) (q + m + (r + n)) c c (sym (m4_add (q + m) f (r + n) g hq hr)) refl
    ∙ ap (λ (y : ℕ). y % 4) (line q m r n c)
    ∙ m4_add (q + r) (q + r) (m + n + c) (k + w) refl (sym (hk ∙ m4_mod (m % 4 + n % 4 + c) ∙ m4_add (m % 4 + n % 4) (m + n) c c (m4_add (m % 4) m (n % 4) n (m4_mod m) (m4_mod n)) refl))
    ∙ ap (λ (y : ℕ). y % 4) (last q r k w))
  where
    line : (q m r n c : ℕ) → q + m + (r + n) + c ≡ q + r + (m + n + c)
    line q m r n c = omega arith

    last : (q r k w : ℕ) → q + r + (k + w) ≡ q + r + k + w
    last q r k w = omega arith

quarter_product : (a b : Pauli) → quarter (times a b) ≡ (quarter a + quarter b + quarter (times (positive a) (positive b))) % 4
unfolding times positive quarter
quarter_product a b =
    m4_low (quarter (times a b)) _
    (sums a.phase b.phase (2 * (count (bit_and a.z b.x) % 2)) (count (bit_and a.x a.z)) (count (bit_and b.x b.z))
    (count (bit_and (bit_xor a.x b.x) (bit_xor a.z b.z))) (quarter a) (quarter b) (quarter (times (positive a) (positive b))) (quarter (times a b))
    (quarter_whole a.phase (count (bit_and a.x a.z))) (quarter_whole b.phase (count (bit_and b.x b.z)))
    (quarter_whole _ _) (quarter_whole _ _) ∙ sym (m4_mod _))
    (quarter-lt (times a b)) (mod-lt _ (lit< tt))

-- the two quarters that give a sign
abbrev pub Even : ℕ → Type 0
Even k = (k ≡ 0) ⊎ (k ≡ 2)

pub Even-mod : (k : ℕ) → k < 4 → k % 2 ≡ 0 → Even k
Even-mod zero h e = inl refl
Even-mod (suc zero) h e = absurd (wrong e)
  where
    wrong : ◌≡◌ {A = ℕ} 1 0 → ⊥
    wrong e = omega arith
Even-mod (suc (suc zero)) h e = inr refl
Even-mod (suc (suc (suc k))) h e = absurd (wrong k h e)
  where
    wrong : (k : ℕ) → suc (suc (suc k)) < 4 → suc (suc (suc k)) % 2 ≡ 0 → ⊥
    wrong k h e = omega arith

pub mod-Even : (k : ℕ) → Even k → k % 2 ≡ 0
mod-Even k (inl e) = ap (λ (w : ℕ). w % 2) e
mod-Even k (inr e) = ap (λ (w : ℕ). w % 2) e

Even-sign : (k : ℕ) → Even k → IsSign (sign_of k)
unfolding sign_of
Even-sign k (inl e) = inl (ap sign_of e)
Even-sign k (inr e) = inr (ap sign_of e)

-- pos 0 is no sign
no_sign : IsSign (pos 0) → ⊥
no_sign (inl e) = let z : ◌≡◌ {A = ℕ} 0 1 = cc in omega arith
no_sign (inr e) = let z : ◌≡◌ {A = ℕ} 0 1 = cc in omega arith

sign_Even : (k : ℕ) → IsSign (sign_of k) → Even k
unfolding sign_of
sign_Even zero h = inl refl
sign_Even (suc zero) h = absurd (no_sign h)
sign_Even (suc (suc zero)) h = inr refl
sign_Even (suc (suc (suc k))) h = absurd (no_sign h)

-- a row has a sign just when its quarter is even
pub has_sign : (p : Pauli) → quarter p % 2 ≡ 0 → HasSign p
unfolding sign
has_sign p h = Even-sign (quarter p) (Even-mod (quarter p) (quarter-lt p) h)

pub sign_quarter : (p : Pauli) → HasSign p → quarter p % 2 ≡ 0
unfolding sign
sign_quarter p h = mod-Even (quarter p) (sign_Even (quarter p) h)

pub signs_of : (i j k : ℕ) → Even i → Even j → Even k → sign_of ((i + j + k) % 4) ≡ sign_of i *ℤ sign_of j *ℤ sign_of k
unfolding sign_of
signs_of i j k (inl e) (inl f) (inl g) = rw (e, f, g)
signs_of i j k (inl e) (inl f) (inr g) = rw (e, f, g)
signs_of i j k (inl e) (inr f) (inl g) = rw (e, f, g)
signs_of i j k (inl e) (inr f) (inr g) = rw (e, f, g)
signs_of i j k (inr e) (inl f) (inl g) = rw (e, f, g)
signs_of i j k (inr e) (inl f) (inr g) = rw (e, f, g)
signs_of i j k (inr e) (inr f) (inl g) = rw (e, f, g)
signs_of i j k (inr e) (inr f) (inr g) = rw (e, f, g)

quarter-positive : (p : Pauli) → quarter (positive p) ≡ 0
unfolding quarter positive
quarter-positive p = law (count (bit_and p.x p.z))
  where
    law : (n : ℕ) → (n % 4 + 4 - n % 4) % 4 ≡ 0
    law n = omega arith

pub sign-positive : (p : Pauli) → sign (positive p) ≡ pos 1
unfolding sign sign_of
sign-positive p = ap sign_of (quarter-positive p)

-- a product of commuting rows that have signs has one
pub product_sign : (a b : Pauli) → HasSign a → HasSign b → anti a b ≡ 0 → HasSign (times a b)
product_sign a b h k e = has_sign (times a b) (law (quarter a) (quarter b) (anti a b) (quarter (times a b)) (quarter-times a b) (sign_quarter a h) (sign_quarter b k) e)
  where
    law : (p q t r : ℕ) → r % 2 ≡ (p + q + t) % 2 → p % 2 ≡ 0 → q % 2 ≡ 0 → t ≡ 0 → r % 2 ≡ 0
    law p q t r h j k e = omega arith

-- the product of two signs is a sign
pub sign_sign : (g h : ℤ) → IsSign g → IsSign h → IsSign (g *ℤ h)
sign_sign g h (inl e) (inl f) = inl (rw (e, f))
sign_sign g h (inl e) (inr f) = inr (rw (e, f))
sign_sign g h (inr e) (inl f) = inr (rw (e, f))
sign_sign g h (inr e) (inr f) = inl (rw (e, f))

positive_sign : (p : Pauli) → HasSign (positive p)
positive_sign p = inl (sign-positive p)

-- ... and it is the product of theirs and of what their axes alone bring in
pub sign-times : (a b : Pauli) → HasSign a → HasSign b → anti a b ≡ 0 → sign (times a b) ≡ sign a *ℤ sign b *ℤ sign (times (positive a) (positive b))
unfolding sign
sign-times a b h k e =
    ap sign_of (quarter_product a b)
    ∙ signs_of (quarter a) (quarter b) (quarter (times (positive a) (positive b))) (sign_Even (quarter a) h) (sign_Even (quarter b) k)
    (sign_Even _ (product_sign (positive a) (positive b) (positive_sign a) (positive_sign b) (unfold anti positive in e)))

-- rows of one axis: what their axes bring in is nothing, and the product is the identity with the relative sign
same_quarter : (p : Pauli) → quarter (times (positive p) (positive p)) ≡ 0
unfolding quarter times positive
same_quarter p =
    ap₂ (λ (u v : ℕ). (((n % 4 + n % 4 + 2 * (u % 2)) % 4 + 4) - v % 4) % 4) (ap count (and_comm p.z p.x))
    (ap (λ (w : ℕ). count (bit_and w (bit_xor p.z p.z))) (xor_self p.x) ∙ count_zero)
    ∙ law n
  where
    n : ℕ
    n = count (bit_and p.x p.z)

    law : (n : ℕ) → (((n % 4 + n % 4 + 2 * (n % 2)) % 4 + 4) - 0 % 4) % 4 ≡ 0
    law n = omega arith

pub sign_same : (a b : Pauli) → a.x ≡ b.x → a.z ≡ b.z → HasSign a → HasSign b
    → ((times a b).x ≡ 0) × ((times a b).z ≡ 0) × (sign (times a b) ≡ sign a *ℤ sign b)
unfolding times
sign_same a b ex ez h k = (
  ap (bit_xor a.x) (sym ex) ∙ xor_self a.x,
  ap (bit_xor a.z) (sym ez) ∙ xor_self a.z,
  law,
)
  where
    one : positive b ≡ positive a
    one = unfold positive in ap₂ (λ (u v : ℕ). record { phase = count (bit_and u v) % 4; x = u; z = v }) (sym ex) (sym ez)

    commute : anti a b ≡ 0
    commute = unfold anti in ap₂ (λ (u v : ℕ). anti a (record { phase = 0; x = u; z = v })) (sym ex) (sym ez) ∙ anti_self a

    idle : sign (times (positive a) (positive b)) ≡ pos 1
    idle = unfold sign sign_of in ap (λ (w : Pauli). sign_of (quarter (times (positive a) w))) one ∙ ap sign_of (same_quarter a)

    times_one : (m n k : ℤ) → IsSign m → IsSign n → k ≡ pos 1 → m *ℤ n *ℤ k ≡ m *ℤ n
    times_one m n k (inl e) (inl f) g = rw (e, f, g)
    times_one m n k (inl e) (inr f) g = rw (e, f, g)
    times_one m n k (inr e) (inl f) g = rw (e, f, g)
    times_one m n k (inr e) (inr f) g = rw (e, f, g)

    law : sign (times a b) ≡ sign a *ℤ sign b
    law = sign-times a b h k commute ∙ times_one (sign a) (sign b) (sign (times (positive a) (positive b))) h k idle
