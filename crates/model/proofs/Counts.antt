-- The count of a set's qubits is the library's `ones`, and what follows for a digit, for sets laid side by side and for one qubit; and that
-- exclusive or is associative. Assumes nothing.
use Prim.Native.Nat.{ℕ, zero, suc, ◌+◌, ◌*◌, ◌/◌, ◌%◌, ◌^◌, ◌<◌}
use mathlib.Core.Path.{◌≡◌, refl, sym, ap, ap₂, ◌∙◌}
use native.Mathlib.Nat.{mod-lt, not-suc-le-zero, le_of_suc-le-suc}
use native.Mathlib.Omega.{arith}
use lib.Arith.{bin_ind}
use lib.Dec.{lit<}
use lib.Pow.{pow_pos}
use lib.Bits.{bit_and, bit_xor, and_mod, and_shr, xor_mod, xor_shr, xor_comm}
use lib.Count.{ones, ones_in, ones_step, ones_cat}
use Rattle.model.specs.Pauli.{count_in, count}

-- ---- digits

-- what holds of 0 and of 1 holds of a lowest digit
on_digit : (P : ℕ → Type 0) → P 0 → P 1 → (k : ℕ) → k < 2 → P k
on_digit P p0 p1 zero h = p0
on_digit P p0 p1 (suc zero) h = p1
on_digit P p0 p1 (suc (suc k)) h = absurd (not-suc-le-zero (le_of_suc-le-suc (le_of_suc-le-suc h)))

pub on_bit : (P : ℕ → Type 0) → P 0 → P 1 → (n : ℕ) → P (n % 2)
on_bit P p0 p1 n = on_digit P p0 p1 (n % 2) (mod-lt n (lit< tt))

-- ---- the count

ones_in_zero : (d : ℕ) → ones_in d 0 ≡ 0
unfolding ones_in
ones_in_zero zero = refl
ones_in_zero (suc d) = ap (λ (w : ℕ). 0 % 2 + w) (ones_in_zero d)

count_in_ones : (d s : ℕ) → count_in d s ≡ ones_in d s
unfolding count_in ones_in
count_in_ones zero s = refl
count_in_ones (suc d) zero = sym (ones_in_zero (suc d))
count_in_ones (suc d) (suc s) = ap (λ (w : ℕ). suc s % 2 + w) (count_in_ones d (suc s / 2))

-- the library's count
pub count_ones : (s : ℕ) → count s ≡ ones s
unfolding count ones
count_ones s = count_in_ones s s

-- the lowest digit, and the rest
pub count_step : (s : ℕ) → count s ≡ s % 2 + count (s / 2)
count_step s = count_ones s ∙ ones_step s ∙ ap (λ (w : ℕ). s % 2 + w) (sym (count_ones (s / 2)))

-- the digits of a above, and the k digits of r below
pub count_cat : (k a r : ℕ) → r < 2 ^ k → count (a * 2 ^ k + r) ≡ count a + count r
count_cat k a r h = count_ones (a * 2 ^ k + r) ∙ ones_cat k a r h ∙ ap₂ (λ (u v : ℕ). u + v) (sym (count_ones a)) (sym (count_ones r))

pub count_zero : count 0 ≡ 0
unfolding count
count_zero = refl

pub count_one : (q : ℕ) → count (2 ^ q) ≡ 1
unfolding count
count_one q = ap count (line q) ∙ count_cat q 1 0 (pow_pos q)
  where
    line : (q : ℕ) → 2 ^ q ≡ 1 * 2 ^ q + 0
    line q = omega arith

-- the lowest digit of a common set, and the rest
pub count-and : (a b : ℕ) → count (bit_and a b) ≡ bit_and (a % 2) (b % 2) + count (bit_and (a / 2) (b / 2))
count-and a b = count_step (bit_and a b) ∙ ap₂ (λ (x y : ℕ). x + count y) (and_mod a b 1) (and_shr a b 1)

-- ---- exclusive or

pub half_ext : (n m : ℕ) → n / 2 ≡ m / 2 → n % 2 ≡ m % 2 → n ≡ m
half_ext n m h k = omega arith

xor_digits : (a b c : ℕ) → bit_xor (bit_xor (a % 2) (b % 2)) (c % 2) ≡ bit_xor (a % 2) (bit_xor (b % 2) (c % 2))
xor_digits a b c =
    on_bit (λ u. bit_xor (bit_xor u (b % 2)) (c % 2) ≡ bit_xor u (bit_xor (b % 2) (c % 2))) refl
    (on_bit (λ v. bit_xor (bit_xor 1 v) (c % 2) ≡ bit_xor 1 (bit_xor v (c % 2))) refl
    (on_bit (λ w. bit_xor (bit_xor 1 1) w ≡ bit_xor 1 (bit_xor 1 w)) refl refl c) b) a

pub xor_assoc : (a b c : ℕ) → bit_xor (bit_xor a b) c ≡ bit_xor a (bit_xor b c)
xor_assoc =
    bin_ind (λ (a : ℕ). (b c : ℕ) → bit_xor (bit_xor a b) c ≡ bit_xor a (bit_xor b c)) (λ b c. refl)
    (λ a ih b c. half_ext _ _
    (xor_shr (bit_xor a b) c 1 ∙ ap (λ (w : ℕ). bit_xor w (c / 2)) (xor_shr a b 1) ∙ ih (b / 2) (c / 2)
    ∙ sym (xor_shr a (bit_xor b c) 1 ∙ ap (bit_xor (a / 2)) (xor_shr b c 1)))
    (xor_mod (bit_xor a b) c 1 ∙ ap (λ (w : ℕ). bit_xor w (c % 2)) (xor_mod a b 1) ∙ xor_digits a b c
    ∙ sym (xor_mod a (bit_xor b c) 1 ∙ ap (bit_xor (a % 2)) (xor_mod b c 1))))

pub xor_four : (a b c d : ℕ) → bit_xor (bit_xor a b) (bit_xor c d) ≡ bit_xor (bit_xor a c) (bit_xor b d)
xor_four a b c d =
    xor_assoc a b (bit_xor c d)
    ∙ ap (bit_xor a) (sym (xor_assoc b c d) ∙ ap (λ (w : ℕ). bit_xor w d) (xor_comm b c) ∙ xor_assoc c b d)
    ∙ sym (xor_assoc a c (bit_xor b d))
