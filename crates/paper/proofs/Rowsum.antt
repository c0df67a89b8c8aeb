-- Our product of two commuting rows that have signs is the paper's rowsum, sign included. Assumes nothing.
use Prim.Native.Nat.{ℕ, zero, suc, ◌+◌, ◌-◌, ◌*◌, ◌/◌, ◌%◌, ◌^◌, ◌≤◌, ◌<◌}
use mathlib.Core.Path.{◌≡◌, refl, sym, ap, ap₂, ◌∙◌}
use mathlib.Core.Logic.{inl, inr}
use mathlib.Core.Bool.{Bool, true, false, cond}
use native.Mathlib.Omega.{arith}
use native.Mathlib.Nat.{mod-lt, mod-eq_of_lt}
use lib.Bits.{bit_and, bit_xor, and_lt, xor_lt}
use lib.IntN.{ℤ, pos, negsuc, sub_ℕ, ◌+ℤ◌}
use lib.Pow.{pow_pos, mod-pow-add}
use lib.Dec.{ltb}
use borrow.Author.Tests.{ltb-true, ltb-false}
use Rattle.model.specs.Pauli.{Pauli, has, count, times, quarter}
use Rattle.model.proofs.Counts.{count_zero, count_cat}
use Rattle.model.proofs.Digits.{has-lt, on_has, on_pair, has-xor, has-and}
use Rattle.model.proofs.Products.{m4_add, m4_cancel, m4_mod, twice_bit, quarter_whole, quarter-lt, Even}
use Rattle.paper.specs.Tableau.{bit, g, exponent, mod4, total, rowsum}
use Rattle.paper.specs.Bridge.{to_row}

-- ---- integers modulo 4

mod4_sub : (a b : ℕ) → mod4 (sub_ℕ a b) ≡ (a + 3 * b) % 4
unfolding mod4
mod4_sub a b = go (ltb a b) refl
  where
    below : (a b : ℕ) → a < b → 3 - (b - suc a) % 4 ≡ (a + 3 * b) % 4
    below a b h = omega arith

    above : (a b : ℕ) → b ≤ a → (a - b) % 4 ≡ (a + 3 * b) % 4
    above a b h = omega arith

    go : (t : Bool) → ltb a b ≡ t → mod4 (cond t (negsuc (b - suc a)) (pos (a - b))) ≡ (a + 3 * b) % 4
    go true e = below a b (ltb-true a b e)
    go false e = above a b (ltb-false a b e)

-- a negative number, and a sum of remainders
negative : (a : ℕ) → 3 - a % 4 ≡ (3 + 3 * a) % 4
negative a = small a ∙ m4_cancel (3 - a % 4) (3 + 3 * a) a (left a ∙ sym (right a))
  where
    small : (a : ℕ) → 3 - a % 4 ≡ (3 - a % 4) % 4
    small a = omega arith

    left : (a : ℕ) → (3 - a % 4 + a) % 4 ≡ 3
    left a = omega arith

    right : (a : ℕ) → (3 + 3 * a + a) % 4 ≡ 3
    right a = omega arith

two : (u v : ℕ) → (u % 4 + v % 4) % 4 ≡ (u + v) % 4
two u v = omega arith

mod4-add : (m k : ℤ) → mod4 (m +ℤ k) ≡ (mod4 m + mod4 k) % 4
unfolding mod4
mod4-add (pos a) (pos b) = sym (two a b)
mod4-add (pos a) (negsuc b) = mod4_sub a (suc b) ∙ ap (λ (w : ℕ). w % 4) (line a b) ∙ sym (two a (3 + 3 * b)) ∙ ap (λ (w : ℕ). (a % 4 + w) % 4) (sym (negative b))
  where
    line : (a b : ℕ) → a + 3 * suc b ≡ a + (3 + 3 * b)
    line a b = omega arith
mod4-add (negsuc a) (pos b) = mod4_sub b (suc a) ∙ ap (λ (w : ℕ). w % 4) (line a b) ∙ sym (two (3 + 3 * a) b) ∙ ap (λ (w : ℕ). (w + b % 4) % 4) (sym (negative a))
  where
    line : (a b : ℕ) → b + 3 * suc a ≡ 3 + 3 * a + b
    line a b = omega arith
mod4-add (negsuc a) (negsuc b) =
    negative (suc (a + b)) ∙ ap (λ (w : ℕ). w % 4) (line a b) ∙ sym (two (3 + 3 * a) (3 + 3 * b)) ∙ ap₂ (λ (u v : ℕ). (u + v) % 4) (sym (negative a)) (sym (negative b))
  where
    line : (a b : ℕ) → 3 + 3 * suc (a + b) ≡ 3 + 3 * a + (3 + 3 * b)
    line a b = omega arith

-- ---- one qubit

-- what g is, in the counts of our rule: Y factors of both rows, crossings, and Y factors of the product
GLaw : (x1 z1 x2 z2 : ℕ) → Type 0
GLaw x1 z1 x2 z2 = mod4 (g x1 z1 x2 z2) ≡ (x1 * z1 + x2 * z2 + 2 * (z1 * x2) + 3 * ((x1 + x2) % 2 * ((z1 + z2) % 2))) % 4

g_law : (x1 z1 x2 z2 : ℕ) → x1 < 2 → z1 < 2 → x2 < 2 → z2 < 2 → GLaw x1 z1 x2 z2
unfolding GLaw g mod4
g_law x1 z1 x2 z2 a b c d =
    on_pair (λ x1 z1. GLaw x1 z1 x2 z2) (on_pair (GLaw 0 0) refl refl refl refl x2 z2 c d) (on_pair (GLaw 0 1) refl refl refl refl x2 z2 c d)
    (on_pair (GLaw 1 0) refl refl refl refl x2 z2 c d) (on_pair (GLaw 1 1) refl refl refl refl x2 z2 c d) x1 z1 a b

-- ---- all qubits

-- the digits of s below n
digits : (n s : ℕ) → ℕ
digits zero s = 0
digits (suc n) s = digits n s + has s n

digits-count : (n s : ℕ) → digits n s ≡ count (s % 2 ^ n)
unfolding digits
digits-count zero s = sym (ap count (one s) ∙ count_zero)
  where
    one : (s : ℕ) → s % 1 ≡ 0
    one s = omega arith
digits-count (suc n) s =
    ap (λ (w : ℕ). w + has s n) (digits-count n s) ∙ swap (count (s % 2 ^ n)) (has s n) ∙ ap (λ (w : ℕ). w + count (s % 2 ^ n)) (sym (digit (s)))
    ∙ sym (ap count whole ∙ count_cat n (has s n) (s % 2 ^ n) (mod-lt s (pow_pos n)))
  where
    swap : (a b : ℕ) → a + b ≡ b + a
    swap a b = omega arith

    digit : (s : ℕ) → count (has s n) ≡ has s n
    digit s = on_has (λ d. count d ≡ d) count_zero (unfold count in refl) s n

    whole : s % 2 ^ suc n ≡ has s n * 2 ^ n + s % 2 ^ n
    whole = unfold has in ap (λ (w : ℕ). s % 2 ^ w) (line n) ∙ mod-pow-add s 1 n
      where
        line : (n : ℕ) → suc n ≡ 1 + n
        line n = omega arith

-- a set of qubits below n
digits_all : (n s : ℕ) → s < 2 ^ n → digits n s ≡ count s
digits_all n s h = digits-count n s ∙ ap count (mod-eq_of_lt h)

module _ (a b : Pauli) where
  -- the counts of our rule, over the qubits below n
  counts : ℕ → ℕ
  counts n = digits n (bit_and a.x a.z) + digits n (bit_and b.x b.z) + 2 * digits n (bit_and a.z b.x) + 3 * digits n (bit_and (bit_xor a.x b.x) (bit_xor a.z b.z))

  one_more : (n : ℕ) → counts (suc n)
      ≡ counts n + (has a.x n * has a.z n + has b.x n * has b.z n + 2 * (has a.z n * has b.x n) + 3 * ((has a.x n + has b.x n) % 2 * ((has a.z n + has b.z n) % 2)))
  unfolding counts digits
  one_more n =
      omega (
        arith,
        has-and a.x a.z n,
        has-and b.x b.z n,
        has-and a.z b.x n,
        has-and (bit_xor a.x b.x) (bit_xor a.z b.z) n ∙ ap₂ (λ (u v : ℕ). u * v) (has-xor a.x b.x n) (has-xor a.z b.z n),
      )

  sums : (n : ℕ) → mod4 (exponent n (to_row a) (to_row b)) ≡ counts n % 4
  unfolding exponent to_row mod4 bit has GLaw
  sums zero = unfold counts digits in refl
  sums (suc n) =
      mod4-add (exponent n (to_row a) (to_row b)) _
      ∙ ap₂ (λ (u v : ℕ). (u + v) % 4) (sums n) (g_law (has a.x n) (has a.z n) (has b.x n) (has b.z n) (has-lt a.x n) (has-lt a.z n) (has-lt b.x n) (has-lt b.z n))
      ∙ two (counts n) _ ∙ ap (λ (w : ℕ). w % 4) (sym (one_more n))

-- ---- the sign

-- Y factors m and n of the factors and w of the product, c crossings; quarters p and q of the factors, t of the product
sign_law : (f k c m n w p q t : ℕ) → (p + m) % 4 ≡ f % 4 → (q + n) % 4 ≡ k % 4 → (t + w) % 4 ≡ (f + k + 2 * (c % 2)) % 4 % 4 → (p + q + (m + n + 2 * c + 3 * w)) % 4 ≡ t % 4
sign_law f k c m n w p q t hp hq ht =
    m4_cancel (p + q + (m + n + 2 * c + 3 * w)) t w
    (ap (λ (y : ℕ). y % 4) (line p q m n c w) ∙ m4_add (p + m + (q + n) + 2 * c) (f + k + 2 * (c % 2)) (4 * w) 0
    (m4_add (p + m + (q + n)) (f + k) (2 * c) (2 * (c % 2)) (m4_add (p + m) f (q + n) k hp hq) (sym (twice_bit c))) (four w)
    ∙ ap (λ (y : ℕ). y % 4) (none (f + k + 2 * (c % 2))) ∙ sym (m4_mod (f + k + 2 * (c % 2))) ∙ sym ht)
  where
    line : (p q m n c w : ℕ) → p + q + (m + n + 2 * c + 3 * w) + w ≡ p + m + (q + n) + 2 * c + 4 * w
    line p q m n c w = omega arith

    four : (w : ℕ) → 4 * w % 4 ≡ 0 % 4
    four w = omega arith

    none : (y : ℕ) → y + 0 ≡ y
    none y = omega arith

twice_half : (q : ℕ) → Even q → 2 * (q / 2) ≡ q
twice_half q (inl e) = rw e
twice_half q (inr e) = rw e

rule_sign : (a b : Pauli) → (quarter a + quarter b + (count (bit_and a.x a.z) + count (bit_and b.x b.z) + 2 * count (bit_and a.z b.x)
    + 3 * count (bit_and (bit_xor a.x b.x) (bit_xor a.z b.z)))) % 4 ≡ quarter (times a b) % 4
unfolding times quarter
rule_sign a b =
    sign_law a.phase b.phase (count (bit_and a.z b.x)) (count (bit_and a.x a.z)) (count (bit_and b.x b.z))
    (count (bit_and (bit_xor a.x b.x) (bit_xor a.z b.z))) (quarter a) (quarter b) (quarter (times a b))
    (quarter_whole a.phase (count (bit_and a.x a.z))) (quarter_whole b.phase (count (bit_and b.x b.z))) (quarter_whole _ _)

-- the rowsum's total is the product's quarter
pub total-quarter : (n : ℕ) (a b : Pauli) → a.x < 2 ^ n → a.z < 2 ^ n → b.x < 2 ^ n → b.z < 2 ^ n → Even (quarter a) → Even (quarter b)
    → total n (to_row a) (to_row b) ≡ quarter (times a b)
unfolding total to_row mod4
total-quarter n a b ax az bx bz ea eb =
    mod4-add (pos (2 * (quarter b / 2) + 2 * (quarter a / 2))) (exponent n (to_row a) (to_row b))
    ∙ ap₂ (λ (u v : ℕ). ((u + v) % 4 + mod4 (exponent n (to_row a) (to_row b))) % 4) (twice_half (quarter b) eb) (twice_half (quarter a) ea)
    ∙ ap (λ (w : ℕ). ((quarter b + quarter a) % 4 + w) % 4) (sums a b n) ∙ two (quarter b + quarter a) (counts a b n)
    ∙ ap (λ (w : ℕ). w % 4) (turn (quarter a) (quarter b) (counts a b n)) ∙ ap (λ (w : ℕ). (quarter a + quarter b + w) % 4) all
    ∙ rule_sign a b
    ∙ small (quarter (times a b)) (quarter-lt (times a b))
  where
    turn : (p q c : ℕ) → q + p + c ≡ p + q + c
    turn p q c = omega arith

    small : (t : ℕ) → t < 4 → t % 4 ≡ t
    small t h = omega arith

    all : counts a b n
        ≡ count (bit_and a.x a.z) + count (bit_and b.x b.z) + 2 * count (bit_and a.z b.x) + 3 * count (bit_and (bit_xor a.x b.x) (bit_xor a.z b.z))
    all =
        unfold counts in
        omega (
          arith,
          digits_all n (bit_and a.x a.z) (and_lt n a.x a.z ax az),
          digits_all n (bit_and b.x b.z) (and_lt n b.x b.z bx bz),
          digits_all n (bit_and a.z b.x) (and_lt n a.z b.x az bx),
          digits_all n (bit_and (bit_xor a.x b.x) (bit_xor a.z b.z)) (and_lt n _ _ (xor_lt n a.x b.x ax bx) (xor_lt n a.z b.z az bz)),
        )

pub product_rowsum : (n : ℕ) (a b : Pauli) → a.x < 2 ^ n → a.z < 2 ^ n → b.x < 2 ^ n → b.z < 2 ^ n → Even (quarter a) → Even (quarter b)
    → to_row (times a b) ≡ rowsum n (to_row a) (to_row b)
unfolding rowsum to_row times
product_rowsum n a b ax az bx bz ea eb = λ i. record {
  r = (ap (λ (w : ℕ). w / 2) (sym (total-quarter n a b ax az bx bz ea eb))) i;
  x = bit_xor a.x b.x;
  z = bit_xor a.z b.z;
}
