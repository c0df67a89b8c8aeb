-- More laws of digits than `model` has: all digits of a number, the operations by digits as the machine has them, and the lowest set digit.
-- Assumes nothing.
use mathlib.Core.Path.{◌≡◌, refl, sym, ap, ap₂, ◌∙◌, subst}
use mathlib.Core.Logic.{◌⊎◌, inl, inr, ⊎_elim}
use Prim.Native.Nat.{ℕ, zero, suc, ◌+◌, ◌-◌, ◌*◌, ◌/◌, ◌%◌, ◌^◌, ◌≤◌, ◌<◌, min, max, suc-le-suc}
use native.Mathlib.Nat.{div-one, div-div-eq-div-mul, mul_comm, mul_assoc, pow-suc, zero-mul, one-mul, mod-eq_of_lt, zero-lt-suc, not-suc-le-zero, le_of_suc-le-suc}
use native.Mathlib.Omega.{arith}
use lib.Arith.{lt-one}
use lib.Pow.{pow_pos, pow-lt, field, mod-mod-pow}
use lib.Bits.{bit_and, bit_or, bit_xor, and_step, or_add_and, and_shr, or_shr, and_self, xor_disjoint}
use lib.Count.{count_trailing_zeros, under}
use Rattle.model.specs.Pauli.{has}
use Rattle.model.proofs.Digits.{has-lt, has-xor, has_zero, has-pow, has-pow_other, and_pow}
use Rattle.pauli.specs.Digits.{Lowest, Took, Rest}

-- which way two numbers stand
pub three : (p q : ℕ) → (q < p) ⊎ ((p ≡ q) ⊎ (p < q))
three zero zero = inr (inl refl)
three zero (suc q) = inr (inr (zero-lt-suc q))
three (suc p) zero = inl (zero-lt-suc p)
three (suc p) (suc q) = ⊎_elim (λ l. inl (suc-le-suc l)) (λ r. inr (⊎_elim (λ e. inl (ap suc e)) (λ l. inr (suc-le-suc l)) r)) (three p q)

-- ---- the lowest digit, and the others

pub has_low : (n : ℕ) → has n 0 ≡ n % 2
unfolding has
has_low n = ap (λ (x : ℕ). x % 2) (div-one n)

pub has_up : (n i : ℕ) → has n (suc i) ≡ has (n / 2) i
unfolding has
has_up n i = ap (λ (x : ℕ). n / x % 2) (pow-suc 2 i ∙ mul_comm (2 ^ i) 2) ∙ ap (λ (x : ℕ). x % 2) (sym (div-div-eq-div-mul n 2 (2 ^ i)))

half_lt : (k n : ℕ) → n < 2 ^ suc k → n / 2 < 2 ^ k
half_lt k n h = omega (arith, pow-suc 2 k)

-- a number below 2 ^ k has no digit from k on
pub has_past : (k n i : ℕ) → n < 2 ^ k → k ≤ i → has n i ≡ 0
has_past zero n i h l = ap (λ (x : ℕ). has x i) (lt-one h) ∙ has_zero i
has_past (suc k) n zero h l = absurd (not-suc-le-zero l)
has_past (suc k) n (suc i) h l = has_up n i ∙ has_past k (n / 2) i (half_lt k n h) (le_of_suc-le-suc l)

-- two numbers below 2 ^ k with the same k digits are equal
pub has_ext : (k a b : ℕ) → a < 2 ^ k → b < 2 ^ k → ((i : ℕ) → i < k → has a i ≡ has b i) → a ≡ b
has_ext zero a b ha hb e = lt-one ha ∙ sym (lt-one hb)
has_ext (suc k) a b ha hb e =
    let h : a / 2 ≡ b / 2 = has_ext k (a / 2) (b / 2) (half_lt k a ha) (half_lt k b hb) (λ i l. sym (has_up a i) ∙ e (suc i) (suc-le-suc l) ∙ has_up b i) in
    let l : a % 2 ≡ b % 2 = sym (has_low a) ∙ e 0 (zero-lt-suc k) ∙ has_low b in
    omega arith

-- ---- the operations, digit by digit

pub has_min : (a b i : ℕ) → has (bit_and a b) i ≡ min (has a i) (has b i)
has_min a b zero = has_low (bit_and a b) ∙ omega (arith, and_step a b) ∙ sym (ap₂ min (has_low a) (has_low b))
has_min a b (suc i) =
    has_up (bit_and a b) i ∙ ap (λ (x : ℕ). has x i) (and_shr a b 1) ∙ has_min (a / 2) (b / 2) i ∙ sym (ap₂ min (has_up a i) (has_up b i))

pub has-or : (a b i : ℕ) → has (bit_or a b) i ≡ max (has a i) (has b i)
has-or a b zero = has_low (bit_or a b) ∙ omega (arith, and_step a b, or_add_and a b) ∙ sym (ap₂ max (has_low a) (has_low b))
has-or a b (suc i) =
    has_up (bit_or a b) i ∙ ap (λ (x : ℕ). has x i) (or_shr a b 1) ∙ has-or (a / 2) (b / 2) i ∙ sym (ap₂ max (has_up a i) (has_up b i))

-- ---- 2 ^ p

-- n with its digit p, which is 0, set
pub xor-pow : (n p : ℕ) → has n p ≡ 0 → bit_xor n (2 ^ p) ≡ n + 2 ^ p
xor-pow n p e = xor_disjoint n (2 ^ p) (and_pow n p ∙ ap (λ (x : ℕ). x * 2 ^ p) e ∙ zero-mul (2 ^ p))

pub has-add_same : (n p : ℕ) → has n p ≡ 0 → has (n + 2 ^ p) p ≡ 1
has-add_same n p e =
    ap (λ (x : ℕ). has x p) (sym (xor-pow n p e)) ∙ has-xor n (2 ^ p) p ∙ omega (arith, has-pow p)

pub has-add_other : (n p j : ℕ) → has n p ≡ 0 → (j ≡ p → ⊥) → has (n + 2 ^ p) j ≡ has n j
has-add_other n p j e d =
    ap (λ (x : ℕ). has x j) (sym (xor-pow n p e)) ∙ has-xor n (2 ^ p) j ∙ omega (arith, has-pow_other p j (λ e. d (sym e)), has-lt n j)

-- the machine's `1 << p`
pub bit_is : (k p : ℕ) → p < k → (1 * 2 ^ p) % 2 ^ k ≡ 2 ^ p
bit_is k p l = ap (λ (x : ℕ). x % 2 ^ k) (one-mul (2 ^ p)) ∙ mod-eq_of_lt (pow-lt l)

-- the machine's `!a`, at k digits
pub has_not : (k a j : ℕ) → a < 2 ^ k → j < k → has ((2 ^ k - 1) - a) j + has a j ≡ 1
has_not zero a j h l = absurd (not-suc-le-zero l)
has_not (suc k) a zero h l = ap₂ (λ (x y : ℕ). x + y) (has_low ((2 ^ suc k - 1) - a)) (has_low a) ∙ omega (arith, pow-suc 2 k, pow_pos k)
has_not (suc k) a (suc j) h l =
    let e : ((2 ^ suc k - 1) - a) / 2 ≡ (2 ^ k - 1) - a / 2 = omega (arith, pow-suc 2 k, pow_pos k) in
    ap₂ (λ (x y : ℕ). x + y) (has_up ((2 ^ suc k - 1) - a) j ∙ ap (λ (x : ℕ). has x j) e) (has_up a j)
    ∙ has_not k (a / 2) j (half_lt k a h) (le_of_suc-le-suc l)

-- a word with digit p set, and with digit p cleared
pub set_same : (w p : ℕ) → has (bit_or w (2 ^ p)) p ≡ 1
set_same w p = has-or w (2 ^ p) p ∙ omega (arith, has-pow p, has-lt w p)

pub set_other : (w p j : ℕ) → (j ≡ p → ⊥) → has (bit_or w (2 ^ p)) j ≡ has w j
set_other w p j d = has-or w (2 ^ p) j ∙ omega (arith, has-pow_other p j (λ e. d (sym e)))

pub clear_same : (k w p : ℕ) → p < k → has (bit_and w ((2 ^ k - 1) - 2 ^ p)) p ≡ 0
clear_same k w p l = has_min w ((2 ^ k - 1) - 2 ^ p) p ∙ omega (arith, has_not k (2 ^ p) p (pow-lt l) l, has-pow p)

pub clear_other : (k w p j : ℕ) → p < k → j < k → (j ≡ p → ⊥) → has (bit_and w ((2 ^ k - 1) - 2 ^ p)) j ≡ has w j
clear_other k w p j l lj d = has_min w ((2 ^ k - 1) - 2 ^ p) j ∙ omega (arith, has_not k (2 ^ p) j (pow-lt l) lj, has-pow_other p j (λ e. d (sym e)), has-lt w j)

-- ---- the lowest set digit of a word

-- w is v and its lowest set digit t, of k digits; the digits of v above t are those of `high`, and it has no others
pub record Low (k w t v : ℕ) : Type 0 where
  pub place : t < k
  pub sum : v + 2 ^ t ≡ w
  pub high : ℕ
  pub whole : v ≡ high * 2 ^ suc t
  zeros : (j : ℕ) → j ≤ t → has v j ≡ 0

Low-zero : (k w : ℕ) → w % 2 ≡ 0 → 0 < w → Low k (w / 2) (count_trailing_zeros k (w / 2)) (bit_and (w / 2) (w / 2 - 1)) → Low (suc k) w (suc (count_trailing_zeros k (w / 2))) (bit_and w (w - 1))
Low-zero k w e p ih = record {
  place = suc-le-suc ih.place;
  sum = omega (arith, pow-suc 2 (count_trailing_zeros k (w / 2)), ih.sum, s);
  high = ih.high;
  whole = s ∙ ap (λ (x : ℕ). x * 2) ih.whole ∙ mul_assoc ih.high (2 ^ suc (count_trailing_zeros k (w / 2))) 2
      ∙ ap (λ (x : ℕ). ih.high * x) (sym (pow-suc 2 (suc (count_trailing_zeros k (w / 2)))));
  zeros = zs;
}
  where
    half : (w - 1) / 2 ≡ w / 2 - 1
    half = omega arith

    s : bit_and w (w - 1) ≡ bit_and (w / 2) (w / 2 - 1) * 2
    s = and_step w (w - 1) ∙ ap (λ (x : ℕ). bit_and (w / 2) x * 2 + min (w % 2) ((w - 1) % 2)) half ∙ omega arith

    zs : (j : ℕ) → j ≤ suc (count_trailing_zeros k (w / 2)) → has (bit_and w (w - 1)) j ≡ 0
    zs zero l = has_low (bit_and w (w - 1)) ∙ omega (arith, s)
    zs (suc j) l = has_up (bit_and w (w - 1)) j ∙ ap (λ (x : ℕ). has x j) (omega (arith, s)) ∙ ih.zeros j (le_of_suc-le-suc l)

Low-one : (k w : ℕ) → w % 2 ≡ 1 → Low (suc k) w 0 (bit_and w (w - 1))
Low-one k w e = record {
  place = zero-lt-suc k;
  sum = omega (arith, s);
  high = w / 2;
  whole = omega (arith, s);
  zeros = λ j l. ap (λ (x : ℕ). has (bit_and w (w - 1)) x) (omega arith) ∙ has_low (bit_and w (w - 1)) ∙ omega (arith, s);
}
  where
    half : (w - 1) / 2 ≡ w / 2
    half = omega arith

    s : bit_and w (w - 1) ≡ w - 1
    s =
        and_step w (w - 1) ∙ ap (λ (x : ℕ). bit_and (w / 2) x * 2 + min (w % 2) ((w - 1) % 2)) half
        ∙ ap (λ (x : ℕ). x * 2 + min (w % 2) ((w - 1) % 2)) (and_self (w / 2)) ∙ omega arith

pub low : (k w : ℕ) → 0 < w → w < 2 ^ k → Low k w (count_trailing_zeros k w) (bit_and w (w - 1))
unfolding count_trailing_zeros
low zero w p h = absurd (not-suc-le-zero (subst (λ (x : ℕ). 0 < x) (lt-one h) p))
low (suc k) w p h = go (λ q. low k (w / 2) q (half_lt k w h)) (w % 2) refl
  where
    go : (0 < w / 2 → Low k (w / 2) (count_trailing_zeros k (w / 2)) (bit_and (w / 2) (w / 2 - 1))) → (d : ℕ) → w % 2 ≡ d → Low (suc k) w (under d (count_trailing_zeros k (w / 2))) (bit_and w (w - 1))
    go ih zero e = Low-zero k w e p (ih (omega arith))
    go ih (suc d) e = Low-one k w (omega arith)

module _ (w : ℕ) (p : 0 < w) (h : w < 2 ^ 64) where
  pub Lowest-is : Lowest w (count_trailing_zeros 64 w)
  Lowest-is =
      let l = low 64 w p h in
      let t = count_trailing_zeros 64 w in
      record {
        place = l.place;
        one = ap (λ (x : ℕ). has x t) (sym l.sum) ∙ has-add_same (bit_and w (w - 1)) t (l.zeros t (omega arith));
        below = λ j lt. ap (λ (x : ℕ). has x j) (sym l.sum) ∙ has-add_other (bit_and w (w - 1)) t j (l.zeros t (omega arith)) (λ e. omega arith) ∙ l.zeros j (omega arith);
      }

-- two places of the lowest set digit are the same
pub Lowest-same : (w p q : ℕ) → Lowest w p → Lowest w q → p ≡ q
Lowest-same w p q a b = ⊎_elim (λ l. absurd (no q p b a l)) (λ r. ⊎_elim (λ e. e) (λ l. absurd (no p q a b l)) r) (three p q)
  where
    no : (p q : ℕ) → Lowest w p → Lowest w q → p < q → ⊥
    no p q a b l = let z = b.below p l in let o = a.one in omega arith

pub Rest-is : (w : ℕ) → 0 < w → w < 2 ^ 64 → Rest w (bit_and w (w - 1))
Rest-is w p h q lo = subst (λ (x : ℕ). Took w x (bit_and w (w - 1))) (Lowest-same w (count_trailing_zeros 64 w) q (Lowest-is w p h) lo) took
  where
    took : Took w (count_trailing_zeros 64 w) (bit_and w (w - 1))
    took =
        let l = low 64 w p h in
        let t = count_trailing_zeros 64 w in
        record {
          sum = l.sum;
          gone = l.zeros t (omega arith);
          other = λ j d. sym (ap (λ (x : ℕ). has x j) (sym l.sum) ∙ has-add_other (bit_and w (w - 1)) t j (l.zeros t (omega arith)) d);
        }

-- ---- the digits below k

has-mod_at : (n i j : ℕ) → has (n % 2 ^ ((i + 1) + j)) j ≡ has n j
unfolding has
has-mod_at n i j = ap (λ (x : ℕ). x % 2) (field n (i + 1) j) ∙ mod-mod-pow (n / 2 ^ j) i 1

pub has-mod : (k n j : ℕ) → j < k → has (n % 2 ^ k) j ≡ has n j
has-mod k n j l = subst (λ (x : ℕ). has (n % 2 ^ x) j ≡ has n j) (omega arith) (has-mod_at n (k - suc j) j)
