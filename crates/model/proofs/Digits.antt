-- Digits of sets: what exclusive or and intersection do to them, one qubit's set, and a set with one digit changed. Assumes nothing.
use Prim.Native.Nat.{ℕ, zero, suc, ◌+◌, ◌-◌, ◌*◌, ◌/◌, ◌%◌, ◌^◌, ◌<◌}
use mathlib.Core.Path.{◌≡◌, refl, sym, ap, ap₂, ◌∙◌}
use mathlib.Core.Logic.{◌≢◌}
use native.Mathlib.Omega.{arith}
use native.Mathlib.Decide.{dec_lt}
use native.Mathlib.Nat.{mod-lt, zero-div, div_self, div-eq_of_lt}
use lib.Arith.{bin_ind}
use lib.Dec.{lit<}
use lib.Pow.{pow_pos, pow-lt, pow-add, shl-shr}
use lib.Bits.{bit_and, bit_xor, and_mod, and_shr, xor_mod, xor_shr, and_comm, and_high, and_zero_r, xor_zero_r, xor_self}
use Rattle.model.specs.Pauli.{has, count}
use Rattle.model.proofs.Counts.{on_bit, half_ext, count_step, count_one, count_zero, xor_four}

-- ---- one digit

pub has-lt : (v j : ℕ) → has v j < 2
unfolding has
has-lt v j = mod-lt _ (lit< tt)

-- what holds of 0 and of 1 holds of a digit
pub on_has : (P : ℕ → Type 0) → P 0 → P 1 → (v j : ℕ) → P (has v j)
unfolding has
on_has P p0 p1 v j = on_bit P p0 p1 (v / 2 ^ j)

pub has-xor : (u v j : ℕ) → has (bit_xor u v) j ≡ (has u j + has v j) % 2
unfolding has
has-xor u v j =
    ap (λ (w : ℕ). w % 2) (xor_shr u v j) ∙ xor_mod (u / 2 ^ j) (v / 2 ^ j) 1
    ∙ on_bit (λ a. bit_xor a (v / 2 ^ j % 2) ≡ (a + v / 2 ^ j % 2) % 2)
    (on_bit (λ b. bit_xor 0 b ≡ (0 + b) % 2) refl refl (v / 2 ^ j)) (on_bit (λ b. bit_xor 1 b ≡ (1 + b) % 2) refl refl (v / 2 ^ j)) (u / 2 ^ j)

pub has-and : (u v j : ℕ) → has (bit_and u v) j ≡ has u j * has v j
unfolding has
has-and u v j =
    ap (λ (w : ℕ). w % 2) (and_shr u v j) ∙ and_mod (u / 2 ^ j) (v / 2 ^ j) 1
    ∙ on_bit (λ a. bit_and a (v / 2 ^ j % 2) ≡ a * (v / 2 ^ j % 2))
    (on_bit (λ b. bit_and 0 b ≡ 0 * b) refl refl (v / 2 ^ j)) (on_bit (λ b. bit_and 1 b ≡ 1 * b) refl refl (v / 2 ^ j)) (u / 2 ^ j)

pub has_zero : (j : ℕ) → has 0 j ≡ 0
unfolding has
has_zero j = ap (λ (w : ℕ). w % 2) (zero-div (2 ^ j))

-- ---- one qubit's set

pub has-pow : (q : ℕ) → has (2 ^ q) q ≡ 1
unfolding has
has-pow q = ap (λ (w : ℕ). w % 2) (div_self (pow_pos q))

pub has-pow_other : (q j : ℕ) → q ≢ j → has (2 ^ q) j ≡ 0
unfolding has
has-pow_other q j h = go (dec_lt q j)
  where
    go : Dec (q < j) → 2 ^ q / 2 ^ j % 2 ≡ 0
    go (yes k) = ap (λ (w : ℕ). w % 2) (div-eq_of_lt (pow-lt k))
    go (no k) =
        ap (λ (w : ℕ). 2 ^ w / 2 ^ j % 2) line ∙ ap (λ (w : ℕ). w / 2 ^ j % 2) (pow-add 2 (suc (q - suc j)) j)
        ∙ ap (λ (w : ℕ). w % 2) (shl-shr (2 ^ suc (q - suc j)) j) ∙ even (q - suc j)
      where
        line : q ≡ suc (q - suc j) + j
        line = omega arith

        even : (m : ℕ) → 2 ^ suc m % 2 ≡ 0
        even m = omega arith

pub and_pow : (v j : ℕ) → bit_and v (2 ^ j) ≡ has v j * 2 ^ j
unfolding has
and_pow v j = ap (bit_and v) line ∙ and_high v 1 j
  where
    line : 2 ^ j ≡ 2 ^ (1 + j) - 2 ^ j
    line = omega (arith, pow-add 2 1 j)

-- ---- sets

pub and_xor : (u v w : ℕ) → bit_and (bit_xor u v) w ≡ bit_xor (bit_and u w) (bit_and v w)
and_xor =
    bin_ind (λ (u : ℕ). (v w : ℕ) → bit_and (bit_xor u v) w ≡ bit_xor (bit_and u w) (bit_and v w)) (λ v w. refl)
    (λ u ih v w. half_ext _ _
    (and_shr (bit_xor u v) w 1 ∙ ap (λ (a : ℕ). bit_and a (w / 2)) (xor_shr u v 1) ∙ ih (v / 2) (w / 2)
    ∙ sym (xor_shr (bit_and u w) (bit_and v w) 1 ∙ ap₂ bit_xor (and_shr u w 1) (and_shr v w 1)))
    (and_mod (bit_xor u v) w 1 ∙ ap (λ (a : ℕ). bit_and a (w % 2)) (xor_mod u v 1) ∙ digit u v w
    ∙ sym (xor_mod (bit_and u w) (bit_and v w) 1 ∙ ap₂ bit_xor (and_mod u w 1) (and_mod v w 1))))
  where
    digit : (u v w : ℕ) → bit_and (bit_xor (u % 2) (v % 2)) (w % 2) ≡ bit_xor (bit_and (u % 2) (w % 2)) (bit_and (v % 2) (w % 2))
    digit u v w =
        on_bit (λ a. bit_and (bit_xor a (v % 2)) (w % 2) ≡ bit_xor (bit_and a (w % 2)) (bit_and (v % 2) (w % 2))) refl
        (on_bit (λ b. bit_and (bit_xor 1 b) (w % 2) ≡ bit_xor (bit_and 1 (w % 2)) (bit_and b (w % 2)))
        (on_bit (λ c. bit_and (bit_xor 1 0) c ≡ bit_xor (bit_and 1 c) (bit_and 0 c)) refl refl w)
        (on_bit (λ c. bit_and (bit_xor 1 1) c ≡ bit_xor (bit_and 1 c) (bit_and 1 c)) refl refl w) v) u

-- a digit of both is counted twice
pub count-xor : (u v : ℕ) → count (bit_xor u v) + 2 * count (bit_and u v) ≡ count u + count v
count-xor =
    bin_ind (λ (u : ℕ). (v : ℕ) → count (bit_xor u v) + 2 * count (bit_and u v) ≡ count u + count v) (λ v. base v)
    (λ u ih v. step u v (ih (v / 2)))
  where
    base : (v : ℕ) → count v + 2 * count 0 ≡ count 0 + count v
    base v = omega (arith, count_zero)

    digit : (u v : ℕ) → bit_xor u v % 2 + 2 * (bit_and u v % 2) ≡ u % 2 + v % 2
    digit u v =
        ap₂ (λ (a b : ℕ). a + 2 * b) (xor_mod u v 1) (and_mod u v 1)
        ∙ on_bit (λ a. bit_xor a (v % 2) + 2 * bit_and a (v % 2) ≡ a + v % 2)
        (on_bit (λ b. bit_xor 0 b + 2 * bit_and 0 b ≡ 0 + b) refl refl v) (on_bit (λ b. bit_xor 1 b + 2 * bit_and 1 b ≡ 1 + b) refl refl v) u

    step : (u v : ℕ) → count (bit_xor (u / 2) (v / 2)) + 2 * count (bit_and (u / 2) (v / 2)) ≡ count (u / 2) + count (v / 2)
        → count (bit_xor u v) + 2 * count (bit_and u v) ≡ count u + count v
    step u v ih =
        omega (arith, count_step (bit_xor u v), ap count (xor_shr u v 1), count_step (bit_and u v), ap count (and_shr u v 1), count_step u, count_step v, digit u v)

-- ---- a set with digit j changed where d is 1

unfoldable pub toggle : (v j d : ℕ) → ℕ
toggle v j d = bit_xor v (d * 2 ^ j)

-- the digit d alone
pub has_lone : (d j : ℕ) → d < 2 → has (d * 2 ^ j) j ≡ d
has_lone zero j h = ap (λ (w : ℕ). has w j) (zeroth (2 ^ j)) ∙ has_zero j
  where
    zeroth : (a : ℕ) → 0 * a ≡ 0
    zeroth a = omega arith
has_lone (suc zero) j h = ap (λ (w : ℕ). has w j) (once (2 ^ j)) ∙ has-pow j
  where
    once : (a : ℕ) → 1 * a ≡ a
    once a = omega arith
has_lone (suc (suc d)) j h = absurd (wrong d h)
  where
    wrong : (d : ℕ) → suc (suc d) < 2 → ⊥
    wrong d h = omega arith

-- a digit is 0 or 1: what holds of both holds of it
pub on_two_lem : (P : ℕ → Type 0) → P 0 → P 1 → (d : ℕ) → d < 2 → P d
on_two_lem P p0 p1 zero h = p0
on_two_lem P p0 p1 (suc zero) h = p1
on_two_lem P p0 p1 (suc (suc d)) h = absurd (wrong d h)
  where
    wrong : (d : ℕ) → suc (suc d) < 2 → ⊥
    wrong d h = omega arith

pub on_pair : (P : ℕ → ℕ → Type 0) → P 0 0 → P 0 1 → P 1 0 → P 1 1 → (a b : ℕ) → a < 2 → b < 2 → P a b
on_pair P p q r s a b h k = on_two_lem (λ a. P a b) (on_two_lem (P 0) p q b k) (on_two_lem (P 1) r s b k) a h

zero_times : (a : ℕ) → 0 * a ≡ 0
zero_times a = omega arith

one_times : (a : ℕ) → 1 * a ≡ a
one_times a = omega arith

pub toggle_zero : (v j : ℕ) → toggle v j 0 ≡ v
unfolding toggle
toggle_zero v j = ap (bit_xor v) (zero_times (2 ^ j)) ∙ xor_zero_r v

pub toggle_one : (v j : ℕ) → toggle v j 1 ≡ bit_xor v (2 ^ j)
unfolding toggle
toggle_one v j = ap (bit_xor v) (one_times (2 ^ j))

pub has-toggle : (v j d : ℕ) → d < 2 → has (toggle v j d) j ≡ (has v j + d) % 2
unfolding toggle
has-toggle v j d h = has-xor v (d * 2 ^ j) j ∙ ap (λ (w : ℕ). (has v j + w) % 2) (has_lone d j h)

pub has-toggle_other : (v j d i : ℕ) → d < 2 → j ≢ i → has (toggle v j d) i ≡ has v i
has-toggle_other v j d i h k =
    on_two_lem (λ d. has (toggle v j d) i ≡ has v i) (ap (λ (w : ℕ). has w i) (toggle_zero v j))
    (ap (λ (w : ℕ). has w i) (toggle_one v j) ∙ has-xor v (2 ^ j) i ∙ ap (λ (w : ℕ). (has v i + w) % 2) (has-pow_other j i k) ∙ small (has v i) (has-lt v i)) d h
  where
    small : (a : ℕ) → a < 2 → (a + 0) % 2 ≡ a
    small a h = omega arith

-- two lone digits
pub lone_xor : (j d e : ℕ) → d < 2 → e < 2 → (d + e) % 2 * 2 ^ j ≡ bit_xor (d * 2 ^ j) (e * 2 ^ j)
lone_xor j =
    on_pair (λ d e. (d + e) % 2 * 2 ^ j ≡ bit_xor (d * 2 ^ j) (e * 2 ^ j)) (ap (λ (w : ℕ). bit_xor w (0 * 2 ^ j)) (sym (zero_times (2 ^ j))))
    (ap (λ (w : ℕ). bit_xor w (1 * 2 ^ j)) (sym (zero_times (2 ^ j)))) (sym (xor_zero_r (1 * 2 ^ j)) ∙ ap (bit_xor (1 * 2 ^ j)) (sym (zero_times (2 ^ j))))
    (zero_times (2 ^ j) ∙ sym (xor_self (1 * 2 ^ j)))

-- two changes at once
pub toggle-xor : (u v j d e : ℕ) → d < 2 → e < 2 → toggle (bit_xor u v) j ((d + e) % 2) ≡ bit_xor (toggle u j d) (toggle v j e)
unfolding toggle
toggle-xor u v j d e h k = ap (bit_xor (bit_xor u v)) (lone_xor j d e h k) ∙ xor_four u v (d * 2 ^ j) (e * 2 ^ j)

-- what a change does to the count of a common set
count_lone : (z a : ℕ) → count (has z a * 2 ^ a) ≡ has z a
count_lone z a = on_has (λ d. count (d * 2 ^ a) ≡ d) (ap count (zero_times (2 ^ a)) ∙ count_zero) (ap count (one_times (2 ^ a)) ∙ count_one a) z a

count_both : (x z a : ℕ) → count (bit_and (bit_and x z) (has z a * 2 ^ a)) ≡ has x a * has z a
count_both x z a =
    on_has (λ d. has z a ≡ d → count (bit_and (bit_and x z) (d * 2 ^ a)) ≡ has x a * d)
    (λ e. ap (λ (w : ℕ). count (bit_and (bit_and x z) w)) (zero_times (2 ^ a)) ∙ ap count (and_zero_r (bit_and x z)) ∙ count_zero ∙ sym (times_zero (has x a)))
    (λ e. ap (λ (w : ℕ). count (bit_and (bit_and x z) w)) (one_times (2 ^ a)) ∙ ap count (and_pow (bit_and x z) a) ∙ count_lone (bit_and x z) a ∙ has-and x z a ∙ ap (λ (w : ℕ). has x a * w) e)
    z a refl
  where
    times_zero : (k : ℕ) → k * 0 ≡ 0
    times_zero k = omega arith

pub count-toggle : (x z a d : ℕ) → d < 2 → count (bit_and (toggle x a d) z) + 2 * (d * (has x a * has z a)) ≡ count (bit_and x z) + d * has z a
count-toggle x z a d h =
    on_two_lem (λ d. count (bit_and (toggle x a d) z) + 2 * (d * (has x a * has z a)) ≡ count (bit_and x z) + d * has z a)
    (omega (arith, ap (λ (w : ℕ). count (bit_and w z)) (toggle_zero x a)))
    (omega (arith, ap (λ (w : ℕ). count (bit_and w z)) (toggle_one x a) ∙ ap count (and_xor x (2 ^ a) z), count-xor (bit_and x z) (bit_and (2 ^ a) z), ap count lone ∙ count_lone z a, ap (λ (w : ℕ). count (bit_and (bit_and x z) w)) lone ∙ count_both x z a)) d h
  where
    lone : bit_and (2 ^ a) z ≡ has z a * 2 ^ a
    lone = and_comm (2 ^ a) z ∙ and_pow z a
