-- The parity law of counts, and from it: anticommutation is bilinear and symmetric, and what a product does to the parity of a quarter. Assumes nothing.
use Prim.Native.Nat.{ℕ, ◌+◌, ◌-◌, ◌*◌, ◌/◌, ◌%◌, ◌<◌}
use mathlib.Core.Path.{◌≡◌, refl, sym, ap, ap₂, ◌∙◌}
use native.Mathlib.Nat.{mod-lt}
use native.Mathlib.Omega.{arith}
use lib.Arith.{bin_ind}
use lib.Dec.{lit<}
use lib.Bits.{bit_and, bit_xor, xor_mod, xor_shr, and_comm}
use Rattle.model.specs.Pauli.{Pauli, count, times, shift, quarter, apart, anti}
use Rattle.model.proofs.Counts.{on_bit, count-and}

-- ---- sums modulo 2, a step at a time: `omega` gives up on many remainders at once

pub m_add : (a b c d : ℕ) → a % 2 ≡ b % 2 → c % 2 ≡ d % 2 → (a + c) % 2 ≡ (b + d) % 2
m_add a b c d p q = omega arith

pub m_mod : (a : ℕ) → a % 2 % 2 ≡ a % 2
m_mod a = omega arith

m_four : (a : ℕ) → a % 4 % 2 ≡ a % 2
m_four a = omega arith

m_twice : (a b : ℕ) → (a + 2 * b) % 2 ≡ a % 2
m_twice a b = omega arith

digit_law : (a b c : ℕ) → bit_and (bit_xor (a % 2) (b % 2)) (c % 2) % 2 ≡ (bit_and (a % 2) (c % 2) + bit_and (b % 2) (c % 2)) % 2
digit_law a b c =
    on_bit (λ u. bit_and (bit_xor u (b % 2)) (c % 2) % 2 ≡ (bit_and u (c % 2) + bit_and (b % 2) (c % 2)) % 2)
    (on_bit (λ v. bit_and (bit_xor 0 v) (c % 2) % 2 ≡ (bit_and 0 (c % 2) + bit_and v (c % 2)) % 2)
    (on_bit (λ w. bit_and (bit_xor 0 0) w % 2 ≡ (bit_and 0 w + bit_and 0 w) % 2) refl refl c)
    (on_bit (λ w. bit_and (bit_xor 0 1) w % 2 ≡ (bit_and 0 w + bit_and 1 w) % 2) refl refl c) b)
    (on_bit (λ v. bit_and (bit_xor 1 v) (c % 2) % 2 ≡ (bit_and 1 (c % 2) + bit_and v (c % 2)) % 2)
    (on_bit (λ w. bit_and (bit_xor 1 0) w % 2 ≡ (bit_and 1 w + bit_and 0 w) % 2) refl refl c)
    (on_bit (λ w. bit_and (bit_xor 1 1) w % 2 ≡ (bit_and 1 w + bit_and 1 w) % 2) refl refl c) b)
    a

carry : (d x e y f z : ℕ) → d % 2 ≡ (e + f) % 2 → x % 2 ≡ (y + z) % 2 → (d + x) % 2 ≡ ((e + y) + (f + z)) % 2
carry d x e y f z p q = omega arith

base : (b c : ℕ) → count (bit_and b c) % 2 ≡ (count 0 + count (bit_and b c)) % 2
unfolding count
base b c = omega arith

pub parity : (a b c : ℕ) → count (bit_and (bit_xor a b) c) % 2 ≡ (count (bit_and a c) + count (bit_and b c)) % 2
parity =
    bin_ind (λ (a : ℕ). (b c : ℕ) → count (bit_and (bit_xor a b) c) % 2 ≡ (count (bit_and a c) + count (bit_and b c)) % 2)
    (λ b c. base b c)
    (λ a ih b c.
    ap (λ (x : ℕ). x % 2) (count-and (bit_xor a b) c)
    ∙ ap₂ (λ (x y : ℕ). (bit_and x (c % 2) + count (bit_and y (c / 2))) % 2) (xor_mod a b 1) (xor_shr a b 1)
    ∙ carry (bit_and (bit_xor (a % 2) (b % 2)) (c % 2)) (count (bit_and (bit_xor (a / 2) (b / 2)) (c / 2)))
    (bit_and (a % 2) (c % 2)) (count (bit_and (a / 2) (c / 2))) (bit_and (b % 2) (c % 2)) (count (bit_and (b / 2) (c / 2)))
    (digit_law a b c) (ih (b / 2) (c / 2))
    ∙ sym (ap₂ (λ (x y : ℕ). (x + y) % 2) (count-and a c) (count-and b c)))

pub parity_r : (a b c : ℕ) → count (bit_and c (bit_xor a b)) % 2 ≡ (count (bit_and c a) + count (bit_and c b)) % 2
parity_r a b c =
    ap (λ (x : ℕ). count x % 2) (and_comm c (bit_xor a b)) ∙ parity a b c
    ∙ ap₂ (λ (x y : ℕ). (count x + count y) % 2) (and_comm a c) (and_comm b c)

-- ---- anticommutation

sum4 : (p q r s t u : ℕ) → p % 2 ≡ (r + s) % 2 → q % 2 ≡ (t + u) % 2 → (p + q) % 2 ≡ ((r + t) % 2 + (s + u) % 2) % 2
sum4 p q r s t u h k =
    m_add p (r + s) q (t + u) h k ∙ ap (λ (y : ℕ). y % 2) order
    ∙ sym (m_add ((r + t) % 2) (r + t) ((s + u) % 2) (s + u) (m_mod (r + t)) (m_mod (s + u)))
  where
    order : (r + s) + (t + u) ≡ (r + t) + (s + u)
    order = omega arith

pub apart-xor : (ax az bx bz cx cz : ℕ) → apart (bit_xor ax bx) (bit_xor az bz) cx cz ≡ (apart ax az cx cz + apart bx bz cx cz) % 2
unfolding apart
apart-xor ax az bx bz cx cz =
    sum4 (count (bit_and (bit_xor ax bx) cz)) (count (bit_and (bit_xor az bz) cx)) (count (bit_and ax cz)) (count (bit_and bx cz)) (count (bit_and az cx)) (count (bit_and bz cx))
    (parity ax bx cz) (parity az bz cx)

pub apart_comm : (ax az bx bz : ℕ) → apart ax az bx bz ≡ apart bx bz ax az
unfolding apart
apart_comm ax az bx bz =
    ap₂ (λ (x y : ℕ). (count x + count y) % 2) (and_comm ax bz) (and_comm az bx)
    ∙ swap (count (bit_and bz ax)) (count (bit_and bx az))
  where
    swap : (p q : ℕ) → (p + q) % 2 ≡ (q + p) % 2
    swap p q = omega arith

pub apart_self : (x z : ℕ) → apart x z x z ≡ 0
unfolding apart
apart_self x z = ap (λ (y : ℕ). (count y + count (bit_and z x)) % 2) (and_comm x z) ∙ twice (count (bit_and z x))
  where
    twice : (p : ℕ) → (p + p) % 2 ≡ 0
    twice p = omega arith

pub apart-lt : (ax az bx bz : ℕ) → apart ax az bx bz < 2
unfolding apart
apart-lt ax az bx bz = mod-lt _ (lit< tt)

pub anti-times : (a b c : Pauli) → anti (times a b) c ≡ (anti a c + anti b c) % 2
unfolding anti times
anti-times a b c = apart-xor a.x a.z b.x b.z c.x c.z

pub anti_comm : (a b : Pauli) → anti a b ≡ anti b a
unfolding anti
anti_comm a b = apart_comm a.x a.z b.x b.z

pub anti_self : (a : Pauli) → anti a a ≡ 0
unfolding anti
anti_self a = apart_self a.x a.z

pub anti-lt : (a b : Pauli) → anti a b < 2
unfolding anti
anti-lt a b = apart-lt a.x a.z b.x b.z

pub anti-shift : (k : ℕ) (a c : Pauli) → anti (shift k a) c ≡ anti a c
unfolding anti shift
anti-shift k a c = refl

-- ---- the parity of a quarter

pub quarter_parity : (p : Pauli) → quarter p % 2 ≡ (p.phase + count (bit_and p.x p.z)) % 2
unfolding quarter
quarter_parity p = law p.phase (count (bit_and p.x p.z))
  where
    law : (f n : ℕ) → (f + 4 - n % 4) % 4 % 2 ≡ (f + n) % 2
    law f n = omega arith

pub quarter-shift : (k : ℕ) (a : Pauli) → quarter (shift k a) % 2 ≡ (quarter a + k) % 2
unfolding shift
quarter-shift k a = law a.phase (count (bit_and a.x a.z)) (quarter a) (quarter (shift k a)) (quarter_parity a) (quarter_parity (shift k a))
  where
    law : (f n q r : ℕ) → q % 2 ≡ (f + n) % 2 → r % 2 ≡ ((f + k) % 4 + n) % 2 → r % 2 ≡ (q + k) % 2
    law f n q r h j = omega arith

-- (xa + xb)(za + zb) taken apart
cross : (ax az bx bz : ℕ) → count (bit_and (bit_xor ax bx) (bit_xor az bz)) % 2
    ≡ ((count (bit_and ax az) + count (bit_and ax bz)) + (count (bit_and bx az) + count (bit_and bx bz))) % 2
cross ax az bx bz = law _ _ _ _ _ _ _ (parity ax bx (bit_xor az bz)) (parity_r az bz ax) (parity_r az bz bx)
  where
    law : (w p q a b c d : ℕ) → w % 2 ≡ (p + q) % 2 → p % 2 ≡ (a + b) % 2 → q % 2 ≡ (c + d) % 2 → w % 2 ≡ ((a + b) + (c + d)) % 2
    law w p q a b c d h j k = omega arith

pub quarter-times : (a b : Pauli) → quarter (times a b) % 2 ≡ (quarter a + quarter b + anti a b) % 2
unfolding times anti apart
quarter-times a b =
    law a.phase b.phase (count (bit_and a.z b.x)) _ _ _ _ (count (bit_and b.x a.z)) (quarter a) (quarter b) (quarter (times a b))
    (quarter_parity (times a b)) (cross a.x a.z b.x b.z) (quarter_parity a) (quarter_parity b)
    (ap count (and_comm b.x a.z))
  where
    law : (f g c w aa ab bb ba qa qb r : ℕ) → r % 2 ≡ ((f + g + 2 * (c % 2)) % 4 + w) % 2 → w % 2 ≡ ((aa + ab) + (ba + bb)) % 2
        → qa % 2 ≡ (f + aa) % 2 → qb % 2 ≡ (g + bb) % 2 → ba ≡ c → r % 2 ≡ (qa + qb + (ab + c) % 2) % 2
    law f g c w aa ab bb ba qa qb r h j k m e =
        h ∙ m_add ((f + g + 2 * (c % 2)) % 4) (f + g) w ((aa + ab) + (ba + bb)) (m_four (f + g + 2 * (c % 2)) ∙ m_twice (f + g) (c % 2)) j
        ∙ ap (λ (y : ℕ). y % 2) order
        ∙ sym (m_add (qa + qb) ((f + aa) + (g + bb)) ((ab + c) % 2) (ab + c) (m_add qa (f + aa) qb (g + bb) k m) (m_mod (ab + c)))
      where
        order : (f + g) + ((aa + ab) + (ba + bb)) ≡ ((f + aa) + (g + bb)) + (ab + c)
        order = omega arith
