-- Laws of signatures: what one more qubit, below all others, adds to the cells of a set. Assumes nothing.
use mathlib.Core.Path.{◌≡◌, refl, sym, ap, ap₂, ◌∙◌, subst}
use mathlib.Core.Logic.{◌⊎◌, inl, inr}
use mathlib.Core.List.{List}
use Prim.Native.Nat.{ℕ, zero, suc, ◌+◌, ◌-◌, ◌*◌, ◌/◌, ◌%◌, ◌^◌, ◌≤◌, ◌<◌, max}
use native.Mathlib.Nat.{mod-lt, zero-lt-suc, le_refl, le_trans, le_of_eq, lt_of_lt_of_le, le_of_suc-le-suc, not-suc-le-zero, pow-suc, zero-mul, suc-mul, one-mul, mul_comm, mul_assoc, add-mul, zero-add, add-zero, add_comm, add_assoc, eq-or-lt_of_le, zero-mod, zero-div, div-mul-le_self, div-lt_iff_lt-mul, mul-div_cancel, mul-mod_left, mul-le-mul_right, div-add-mod', mul-pos}
use native.Mathlib.Numerals.{add-one}
use native.Mathlib.Omega.{arith}
use lib.Arith.{bin_ind, digits_lt, digits_div, digits_mod}
use lib.Pow.{pow_pos, pow-lt, pow-add, shr-shr, high, mod-pow-add, mod-mod-pow}
use lib.Bits.{bit_and, bit_or, or_step, or_block, or_zero_r, or_comm}
use lib.Count.{count_trailing_zeros}
use lib.ListN.{length, get_or, drop}
use lib.Seq.{drop-cons, drop-length}
use mathlib.Core.Bool.{Bool, cond, not}
use borrow.Author.Tests.{ne_eqb}
use lib.Dec.{eqb}
use Rattle.model.specs.Events.{touches}
use Rattle.pauli.specs.Rows.{value, touched, signature, blocks, left}
use Rattle.pauli.specs.Digits.{Lowest, Took}
use Rattle.pauli.proofs.Digits.{low, Lowest-is, Lowest-same}

-- ---- a set in cells of l qubits

-- 1 where n is not 0
unfoldable pub flag : ℕ → ℕ
flag zero = 0
flag (suc n) = 1

-- the digits of s from l * b up to l * (b + 1)
unfoldable pub block : (l s b : ℕ) → ℕ
block l s b = s / 2 ^ (l * b) % 2 ^ l

-- the number whose digit b, for b < k, says whether cell b of s has a qubit
unfoldable pub cells : (l s k : ℕ) → ℕ
cells l s zero = 0
cells l s (suc k) = flag (block l s k) * 2 ^ k + cells l s k

touched_flag : (n : ℕ) → cond (not (eqb n 0)) 1 0 ≡ flag n
unfolding flag
touched_flag zero = refl
touched_flag (suc n) = ap (λ (t : Bool). cond (not t) 1 0) (ne_eqb (suc n) 0 (omega arith))

touched-cells : (l x z k : ℕ) → touched l x z k ≡ cells l (bit_or x z) k
unfolding touched cells touches block
touched-cells l x z zero = refl
touched-cells l x z (suc k) = ap₂ (λ (u v : ℕ). u * 2 ^ k + v) (touched_flag (bit_or x z / 2 ^ (l * k) % 2 ^ l)) (touched-cells l x z k)

pub blocks-cells : (l s k : ℕ) → blocks l s k ≡ cells l s k
unfolding blocks
blocks-cells l s k = touched-cells l s 0 k ∙ ap (λ (w : ℕ). cells l w k) (or_zero_r s)

pub signature-blocks : (l x z : ℕ) → signature l x z ≡ blocks l (bit_or x z) 64
unfolding signature
signature-blocks l x z = touched-cells l x z 64 ∙ sym (blocks-cells l (bit_or x z) 64)

-- ---- `or` is associative

pub or_half : (a b : ℕ) → bit_or a b / 2 ≡ bit_or (a / 2) (b / 2)
or_half a b = ap (λ (n : ℕ). n / 2) (or_step a b) ∙ digits_div (bit_or (a / 2) (b / 2)) (omega arith)

pub or_odd : (a b : ℕ) → bit_or a b % 2 ≡ max (a % 2) (b % 2)
or_odd a b = ap (λ (n : ℕ). n % 2) (or_step a b) ∙ digits_mod (bit_or (a / 2) (b / 2)) (omega arith)

pub or_assoc : (a b c : ℕ) → bit_or (bit_or a b) c ≡ bit_or a (bit_or b c)
or_assoc = bin_ind (λ (n : ℕ). (b c : ℕ) → bit_or (bit_or n b) c ≡ bit_or n (bit_or b c)) (λ b c. refl)
    (λ n ih b c.
    or_step (bit_or n b) c
    ∙ ap₂ (λ (x y : ℕ). bit_or x (c / 2) * 2 + max y (c % 2)) (or_half n b) (or_odd n b)
    ∙ ap₂ (λ (x y : ℕ). x * 2 + y) (ih (b / 2) (c / 2)) (omega arith)
    ∙ ap₂ (λ (x y : ℕ). bit_or (n / 2) x * 2 + max (n % 2) y) (sym (or_half b c)) (sym (or_odd b c))
    ∙ sym (or_step n (bit_or b c)))

-- ---- flags and cells

flag-lt : (n : ℕ) → flag n < 2
unfolding flag
flag-lt zero = zero-lt-suc 1
flag-lt (suc n) = le_refl 2

flag_pos : (n : ℕ) → 0 < n → flag n ≡ 1
unfolding flag
flag_pos zero h = absurd (not-suc-le-zero h)
flag_pos (suc n) h = refl

flag_zero : flag 0 ≡ 0
unfolding flag
flag_zero = refl

or_one : (f : ℕ) → f < 2 → bit_or f 1 ≡ 1
or_one zero h = refl
or_one (suc zero) h = refl
or_one (suc (suc f)) h = absurd (omega arith)

pub cells-lt : (l s k : ℕ) → cells l s k < 2 ^ k
unfolding cells
cells-lt l s zero = zero-lt-suc 0
cells-lt l s (suc k) =
    subst (λ (n : ℕ). cells l s (suc k) < n) (mul_comm 2 (2 ^ k) ∙ sym (pow-suc 2 k)) (digits_lt (flag-lt (block l s k)) (cells-lt l s k))

cells_none : (l k : ℕ) → cells l 0 k ≡ 0
unfolding cells block
cells_none l zero = refl
cells_none l (suc k) =
    ap₂ (λ (x y : ℕ). x * 2 ^ k + y) (ap flag (ap (λ (n : ℕ). n % 2 ^ l) (zero-div (2 ^ (l * k))) ∙ zero-mod (2 ^ l)) ∙ flag_zero) (cells_none l k)
    ∙ ap (λ (n : ℕ). n + 0) (zero-mul (2 ^ k))

pub cells_same : (l s t k : ℕ) → ((b : ℕ) → b < k → block l s b ≡ block l t b) → cells l s k ≡ cells l t k
unfolding cells
cells_same l s t zero h = refl
cells_same l s t (suc k) h =
    ap₂ (λ (x y : ℕ). flag x * 2 ^ k + y) (h k (le_refl (suc k))) (cells_same l s t k (λ b g. h b (omega arith)))

-- a set whose qubits are all at q or above has none in a block that ends below q
low_empty : (m q l b : ℕ) → l * b + l ≤ q → block l (m * 2 ^ q) b ≡ 0
unfolding block
low_empty m q l b h =
    let e : ℕ = q - (l * b + l) in
    let split : q ≡ e + (l + l * b) = omega arith in
    let whole : m * 2 ^ q ≡ m * 2 ^ e * 2 ^ l * 2 ^ (l * b) =
    ap (λ (n : ℕ). m * 2 ^ n) split ∙ ap (λ (n : ℕ). m * n) (pow-add 2 e (l + l * b) ∙ ap (λ (n : ℕ). 2 ^ e * n) (pow-add 2 l (l * b)))
    ∙ sym (mul_assoc m (2 ^ e) (2 ^ l * 2 ^ (l * b))) ∙ sym (mul_assoc (m * 2 ^ e) (2 ^ l) (2 ^ (l * b))) in
    ap (λ (n : ℕ). n / 2 ^ (l * b) % 2 ^ l) whole ∙ ap (λ (n : ℕ). n % 2 ^ l) (mul-div_cancel (m * 2 ^ e * 2 ^ l) (pow_pos (l * b)))
    ∙ mul-mod_left (m * 2 ^ e) (2 ^ l)

-- the set h of the qubits above q, with q and without it, as a multiple of 2 ^ q
with_q : (h q : ℕ) → h * 2 ^ suc q + 2 ^ q ≡ (h * 2 + 1) * 2 ^ q
with_q h q =
    ap₂ (λ (x y : ℕ). x + y) (ap (λ (n : ℕ). h * n) (pow-suc 2 q ∙ mul_comm (2 ^ q) 2) ∙ sym (mul_assoc h 2 (2 ^ q))) (sym (one-mul (2 ^ q)))
    ∙ sym (add-mul (h * 2) 1 (2 ^ q))

without_q : (h q : ℕ) → h * 2 ^ suc q ≡ (h * 2) * 2 ^ q
without_q h q = ap (λ (n : ℕ). h * n) (pow-suc 2 q ∙ mul_comm (2 ^ q) 2) ∙ sym (mul_assoc h 2 (2 ^ q))

block_below : (l h q b : ℕ) → b < q / l → block l (h * 2 ^ suc q + 2 ^ q) b ≡ block l (h * 2 ^ suc q) b
block_below l h q b g =
    let le : l * b + l ≤ q =
    le_trans (le_of_eq (ap (λ (n : ℕ). n + l) (mul_comm l b) ∙ sym (suc-mul b l))) (le_trans (mul-le-mul_right l g) (div-mul-le_self q l)) in
    ap (λ (n : ℕ). block l n b) (with_q h q) ∙ low_empty (h * 2 + 1) q l b le ∙ sym (low_empty (h * 2) q l b le)
    ∙ ap (λ (n : ℕ). block l n b) (sym (without_q h q))

block_above : (l h q b : ℕ) → 0 < l → q / l < b → block l (h * 2 ^ suc q + 2 ^ q) b ≡ block l (h * 2 ^ suc q) b
unfolding block
block_above l h q b p g =
    let lt : q < l * b = lt_of_lt_of_le ((div-lt_iff_lt-mul p).0 g) (le_of_eq (mul_comm b l)) in
    let split : suc q + (l * b - suc q) ≡ l * b = omega arith in
    let same : (n : ℕ) → n / 2 ^ suc q / 2 ^ (l * b - suc q) ≡ n / 2 ^ (l * b) =
    λ n. shr-shr n (suc q) (l * b - suc q) ∙ ap (λ (k : ℕ). n / 2 ^ k) split in
    ap (λ (n : ℕ). n % 2 ^ l)
    (sym (same (h * 2 ^ suc q + 2 ^ q))
    ∙ ap (λ (n : ℕ). n / 2 ^ (l * b - suc q)) (high h (suc q) (pow-lt (le_refl (suc q))) ∙ sym (mul-div_cancel h (pow_pos (suc q))))
    ∙ same (h * 2 ^ suc q))

-- an odd number times 2 ^ r is no multiple of 2 ^ l for r < l
odd_part : (h r l : ℕ) → r < l → 0 < (h * 2 + 1) * 2 ^ r % 2 ^ l
odd_part h r l g =
    let e : ℕ = l - suc r in
    let split : l ≡ (e + 1) + r = omega arith in
    let m : ℕ = h * 2 + 1 in
    let parts : m * 2 ^ r % 2 ^ l ≡ m % 2 ^ (e + 1) * 2 ^ r =
    ap (λ (n : ℕ). m * 2 ^ r % 2 ^ n) split ∙ mod-pow-add (m * 2 ^ r) (e + 1) r
    ∙ ap₂ (λ (x y : ℕ). x % 2 ^ (e + 1) * 2 ^ r + y) (mul-div_cancel m (pow_pos r)) (mul-mod_left m (2 ^ r)) ∙ add-zero (m % 2 ^ (e + 1) * 2 ^ r) in
    let odd : 0 < m % 2 ^ (e + 1) = omega (arith, mod-mod-pow m e 1) in
    lt_of_lt_of_le (mul-pos odd (pow_pos r)) (le_of_eq (sym parts))

block_at : (l h q : ℕ) → 0 < l → 0 < block l (h * 2 ^ suc q + 2 ^ q) (q / l)
unfolding block
block_at l h q p =
    let r : ℕ = q % l in
    let b : ℕ = l * (q / l) in
    let split : q ≡ r + b = sym (div-add-mod' q l) ∙ add_comm (q / l * l) r ∙ ap (λ (n : ℕ). r + n) (mul_comm (q / l) l) in
    let whole : h * 2 ^ suc q + 2 ^ q ≡ (h * 2 + 1) * 2 ^ r * 2 ^ b =
    with_q h q ∙ ap (λ (n : ℕ). (h * 2 + 1) * n) (ap (λ (n : ℕ). 2 ^ n) split ∙ pow-add 2 r b) ∙ sym (mul_assoc (h * 2 + 1) (2 ^ r) (2 ^ b)) in
    let here : (h * 2 ^ suc q + 2 ^ q) / 2 ^ b ≡ (h * 2 + 1) * 2 ^ r =
    ap (λ (n : ℕ). n / 2 ^ b) whole ∙ mul-div_cancel ((h * 2 + 1) * 2 ^ r) (pow_pos b) in
    lt_of_lt_of_le (odd_part h r l (mod-lt q p)) (le_of_eq (ap (λ (n : ℕ). n % 2 ^ l) (sym here)))

-- one more qubit below all others sets the digit of its block
pub cells-add : (l h q k : ℕ) → 0 < l → q / l < k → cells l (h * 2 ^ suc q + 2 ^ q) k ≡ bit_or (cells l (h * 2 ^ suc q) k) (2 ^ (q / l))
unfolding cells
cells-add l h q zero p g = absurd (not-suc-le-zero g)
cells-add l h q (suc k) p g = go (λ g'. cells-add l h q k p g') (eq-or-lt_of_le (le_of_suc-le-suc g))
  where
    go : (q / l < k → cells l (h * 2 ^ suc q + 2 ^ q) k ≡ bit_or (cells l (h * 2 ^ suc q) k) (2 ^ (q / l))) → (q / l ≡ k) ⊎ (q / l < k)
        → flag (block l (h * 2 ^ suc q + 2 ^ q) k) * 2 ^ k + cells l (h * 2 ^ suc q + 2 ^ q) k
        ≡ bit_or (flag (block l (h * 2 ^ suc q) k) * 2 ^ k + cells l (h * 2 ^ suc q) k) (2 ^ (q / l))
    go ih (inl e) =
        ap₂ (λ (x y : ℕ). x * 2 ^ k + y) (flag_pos _ (subst (λ (b : ℕ). 0 < block l (h * 2 ^ suc q + 2 ^ q) b) e (block_at l h q p)))
        (cells_same l (h * 2 ^ suc q + 2 ^ q) (h * 2 ^ suc q) k (λ b b<k. block_below l h q b (subst (λ (n : ℕ). b < n) (sym e) b<k)))
        ∙ ap₂ (λ (x y : ℕ). x * 2 ^ k + y) (sym (or_one (flag (block l (h * 2 ^ suc q) k)) (flag-lt _))) (sym (or_zero_r (cells l (h * 2 ^ suc q) k)))
        ∙ sym (or_block k (flag (block l (h * 2 ^ suc q) k)) 1 (cells l (h * 2 ^ suc q) k) 0 (cells-lt l (h * 2 ^ suc q) k) (pow_pos k))
        ∙ ap (bit_or (flag (block l (h * 2 ^ suc q) k) * 2 ^ k + cells l (h * 2 ^ suc q) k)) (add-zero (1 * 2 ^ k) ∙ one-mul (2 ^ k) ∙ ap (λ (n : ℕ). 2 ^ n) (sym e))
    go ih (inr g') =
        ap₂ (λ (x y : ℕ). flag x * 2 ^ k + y) (block_above l h q k p g') (ih g')
        ∙ ap (λ (x : ℕ). x * 2 ^ k + bit_or (cells l (h * 2 ^ suc q) k) (2 ^ (q / l))) (sym (or_zero_r (flag (block l (h * 2 ^ suc q) k))))
        ∙ sym (or_block k (flag (block l (h * 2 ^ suc q) k)) 0 (cells l (h * 2 ^ suc q) k) (2 ^ (q / l)) (cells-lt l (h * 2 ^ suc q) k) (pow-lt g'))
        ∙ ap (bit_or (flag (block l (h * 2 ^ suc q) k) * 2 ^ k + cells l (h * 2 ^ suc q) k)) (ap (λ (n : ℕ). n + 2 ^ (q / l)) (zero-mul (2 ^ k)) ∙ zero-add (2 ^ (q / l)))

-- ---- the lowest set digit

-- a word by its lowest set digit, and without it
pub lowest_digit : (k w : ℕ) → 0 < w → w < 2 ^ k
    → (h : ℕ) × (w ≡ h * 2 ^ suc (count_trailing_zeros k w) + 2 ^ count_trailing_zeros k w) × (bit_and w (w - 1) ≡ h * 2 ^ suc (count_trailing_zeros k w)) × (count_trailing_zeros k w < k)
lowest_digit k w p g =
    let r = low k w p g in
    (r.high, sym r.sum ∙ ap (λ (n : ℕ). n + 2 ^ count_trailing_zeros k w) r.whole, r.whole, r.place)

-- ---- word by word

-- the union of the sets from the word j on
pub union : List ℕ → List ℕ → ℕ → ℕ
union x z j = bit_or (value (drop j x)) (value (drop j z))

module _ (x z : List ℕ) where
  pub union_start : union x z 0 ≡ bit_or (value x) (value z)
  unfolding union
  union_start = refl

  pub union_step : (j : ℕ) → j < length x → j < length z → get_or x j 0 < 2 ^ 64 → get_or z j 0 < 2 ^ 64
      → union x z j ≡ union x z (j + 1) * 2 ^ 64 + bit_or (get_or x j 0) (get_or z j 0)
  unfolding union value
  union_step j hx hz vx vz =
      ap₂ (λ (p q : List ℕ). bit_or (value p) (value q)) (drop-cons x j 0 hx) (drop-cons z j 0 hz)
      ∙ or_block 64 (value (drop (suc j) x)) (value (drop (suc j) z)) (get_or x j 0) (get_or z j 0) vx vz
      ∙ ap (λ (i : ℕ). bit_or (value (drop i x)) (value (drop i z)) * 2 ^ 64 + bit_or (get_or x j 0) (get_or z j 0)) (sym (add-one j))

  pub union_end : (j : ℕ) → j ≡ length x → length x ≡ length z → union x z j ≡ 0
  unfolding union value
  union_end j e f =
      ap₂ (λ (p q : List ℕ). bit_or (value p) (value q)) (ap (λ (i : ℕ). drop i x) e ∙ drop-length x) (ap (λ (i : ℕ). drop i z) (e ∙ f) ∙ drop-length z)

-- ---- the loop: what is found so far, with what the rest of the set gives

pub left_none : (u j : ℕ) → left u j 0 ≡ u * 2 ^ (64 * (j + 1))
unfolding left
left_none u j =
    let e : 64 + 64 * j ≡ 64 * (j + 1) = omega arith in
    ap (λ (n : ℕ). n * 2 ^ (64 * j)) (add-zero (u * 2 ^ 64)) ∙ mul_assoc u (2 ^ 64) (2 ^ (64 * j))
    ∙ ap (λ (n : ℕ). u * n) (sym (pow-add 2 64 (64 * j)) ∙ ap (λ (n : ℕ). 2 ^ n) e)

left_low : (u j h t : ℕ) → t < 64 → (u * 2 ^ 64 + h * 2 ^ suc t) * 2 ^ (64 * j) ≡ (u * 2 ^ (63 - t) + h) * 2 ^ suc (64 * j + t)
left_low u j h t g =
    let e : (63 - t) + suc t ≡ 64 = omega arith in
    let f : suc t + 64 * j ≡ suc (64 * j + t) = omega arith in
    let word : u * 2 ^ 64 ≡ u * 2 ^ (63 - t) * 2 ^ suc t =
    ap (λ (n : ℕ). u * 2 ^ n) (sym e) ∙ ap (λ (n : ℕ). u * n) (pow-add 2 (63 - t) (suc t)) ∙ sym (mul_assoc u (2 ^ (63 - t)) (2 ^ suc t)) in
    ap (λ (n : ℕ). (n + h * 2 ^ suc t) * 2 ^ (64 * j)) word
    ∙ ap (λ (n : ℕ). n * 2 ^ (64 * j)) (sym (add-mul (u * 2 ^ (63 - t)) h (2 ^ suc t)))
    ∙ mul_assoc (u * 2 ^ (63 - t) + h) (2 ^ suc t) (2 ^ (64 * j))
    ∙ ap (λ (n : ℕ). (u * 2 ^ (63 - t) + h) * n) (sym (pow-add 2 (suc t) (64 * j)) ∙ ap (λ (n : ℕ). 2 ^ n) f)

-- the digit that the lowest qubit of what is left adds
left_step : (l u j w sig : ℕ) → j < l → 0 < w → w < 2 ^ 64
    → bit_or sig (cells l (left u j w) 64)
    ≡ bit_or (bit_or sig (2 ^ ((64 * j + count_trailing_zeros 64 w) / l))) (cells l (left u j (bit_and w (w - 1))) 64)
unfolding left
left_step l u j w sig g p v =
    let r = lowest_digit 64 w p v in
    let h : ℕ = r.0 in
    let t : ℕ = count_trailing_zeros 64 w in
    let q : ℕ = 64 * j + t in
    let H : ℕ = u * 2 ^ (63 - t) + h in
    let t<64 : t < 64 = r.3 in
    let after : (u * 2 ^ 64 + bit_and w (w - 1)) * 2 ^ (64 * j) ≡ H * 2 ^ suc q =
    ap (λ (n : ℕ). (u * 2 ^ 64 + n) * 2 ^ (64 * j)) r.2 ∙ left_low u j h t t<64 in
    let before : (u * 2 ^ 64 + w) * 2 ^ (64 * j) ≡ H * 2 ^ suc q + 2 ^ q =
    ap (λ (n : ℕ). (u * 2 ^ 64 + n) * 2 ^ (64 * j)) r.1
    ∙ ap (λ (n : ℕ). n * 2 ^ (64 * j)) (sym (add_assoc (u * 2 ^ 64) (h * 2 ^ suc t) (2 ^ t)))
    ∙ add-mul (u * 2 ^ 64 + h * 2 ^ suc t) (2 ^ t) (2 ^ (64 * j))
    ∙ ap₂ (λ (m n : ℕ). m + n) (left_low u j h t t<64) (sym (pow-add 2 t (64 * j)) ∙ ap (λ (n : ℕ). 2 ^ n) (add_comm t (64 * j))) in
    let pos : 0 < l = omega arith in
    let small : q / l < 64 = (div-lt_iff_lt-mul pos).1 (omega arith) in
    ap (λ (n : ℕ). bit_or sig (cells l n 64)) before
    ∙ ap (bit_or sig) (cells-add l H q 64 pos small ∙ or_comm (cells l (H * 2 ^ suc q) 64) (2 ^ (q / l)))
    ∙ sym (or_assoc sig (2 ^ (q / l)) (cells l (H * 2 ^ suc q) 64))
    ∙ ap (λ (n : ℕ). bit_or (bit_or sig (2 ^ (q / l))) (cells l n 64)) (sym after)

pub left_whole : (s u j w : ℕ) → s ≡ u * 2 ^ 64 + w → s * 2 ^ (64 * j) ≡ left u j w
unfolding left
left_whole s u j w e = ap (λ (n : ℕ). n * 2 ^ (64 * j)) e

-- ---- the same over `blocks`

pub blocks_none : (l k : ℕ) → blocks l 0 k ≡ 0
blocks_none l k = blocks-cells l 0 k ∙ cells_none l k

pub blocks_step : (l u j w sig : ℕ) → j < l → 0 < w → w < 2 ^ 64
    → bit_or sig (blocks l (left u j w) 64) ≡ bit_or (bit_or sig (2 ^ ((64 * j + count_trailing_zeros 64 w) / l))) (blocks l (left u j (bit_and w (w - 1))) 64)
blocks_step l u j w sig g p v =
    ap (bit_or sig) (blocks-cells l (left u j w) 64) ∙ left_step l u j w sig g p v
    ∙ ap (bit_or (bit_or sig (2 ^ ((64 * j + count_trailing_zeros 64 w) / l)))) (sym (blocks-cells l (left u j (bit_and w (w - 1))) 64))

-- the same as a walk over the set digits has them: p is the lowest, v what is left
pub blocks_took : (l u j w p v sig : ℕ) → j < l → w < 2 ^ 64 → Lowest w p → Took w p v
    → bit_or sig (blocks l (left u j w) 64) ≡ bit_or (bit_or sig (2 ^ ((64 * j + p) / l))) (blocks l (left u j v) 64)
blocks_took l u j w p v sig g h first took =
    let pos : 0 < w = omega (arith, took.sum, pow_pos p) in
    let place : count_trailing_zeros 64 w ≡ p = Lowest-same w (count_trailing_zeros 64 w) p (Lowest-is w pos h) first in
    let others : bit_and w (w - 1) ≡ v = omega (arith, (low 64 w pos h).sum, took.sum, ap (λ (n : ℕ). 2 ^ n) place) in
    blocks_step l u j w sig g pos h
    ∙ ap₂ (λ (m n : ℕ). bit_or (bit_or sig (2 ^ ((64 * j + m) / l))) (blocks l (left u j n) 64)) place others
