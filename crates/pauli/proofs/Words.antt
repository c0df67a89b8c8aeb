-- Laws of words as sets: counts of common qubits word by word, and the parts of a slice. Assumes nothing.
use mathlib.Core.Path.{◌≡◌, refl, sym, ap, ap₂, ◌∙◌}
use mathlib.Core.Logic.{◌⊎◌, inl, inr}
use mathlib.Core.List.{List, ◌∷◌}
use Prim.Native.Nat.{ℕ, suc, ◌+◌, ◌-◌, ◌*◌, ◌/◌, ◌^◌, ◌≤◌, ◌<◌}
use native.Mathlib.Nat.{le_of_eq}
use native.Mathlib.Numerals.{add-one}
use native.Mathlib.Omega.{arith}
use lib.Bits.{bit_and, and_block, and_lt}
use lib.ListN.{length, get_or, drop, take, length-drop}
use lib.Seq.{drop-cons, drop-length, take_all, length-take-le}
use Rattle.std.specs.Int.Bits.{and_zero_r}
use Rattle.std.proofs.lemmas.List.{nil_from_length}
use Rattle.model.specs.Pauli.{count}
use Rattle.model.proofs.Counts.{count_zero, count_cat}
use Rattle.pauli.specs.Rows.{value, x_of, z_of}

-- ---- word by word

pub and-cons : (v w : ℕ) (vs ws : List ℕ) → v < 2 ^ 64 → w < 2 ^ 64
    → count (bit_and (value (v ∷ vs)) (value (w ∷ ws))) ≡ count (bit_and (value vs) (value ws)) + count (bit_and v w)
unfolding value
and-cons v w vs ws hv hw =
    ap count (and_block 64 (value vs) (value ws) v w hv hw)
    ∙ count_cat 64 (bit_and (value vs) (value ws)) (bit_and v w) (and_lt 64 v w hv hw)

-- the count of what two lists have in common, by their first words, and where one of them is empty
pub meet-cons : (a b vs ws : List ℕ) (v w : ℕ) → a ≡ v ∷ vs → b ≡ w ∷ ws → v < 2 ^ 64 → w < 2 ^ 64
    → count (bit_and (value a) (value b)) ≡ count (bit_and (value vs) (value ws)) + count (bit_and v w)
meet-cons a b vs ws v w e f hv hw = ap₂ (λ (p q : List ℕ). count (bit_and (value p) (value q))) e f ∙ and-cons v w vs ws hv hw

pub meet_empty : (a b : List ℕ) → (length a ≡ 0) ⊎ (length b ≡ 0) → count (bit_and (value a) (value b)) ≡ 0
unfolding value
meet_empty a b (inl e) = ap (λ (p : List ℕ). count (bit_and (value p) (value b))) (nil_from_length a e) ∙ count_zero
meet_empty a b (inr e) = ap (λ (p : List ℕ). count (bit_and (value a) (value p))) (nil_from_length b e) ∙ ap count (and_zero_r (value a)) ∙ count_zero

-- the count of what a and b have in common from the word i on
pub common : List ℕ → List ℕ → ℕ → ℕ
common a b i = count (bit_and (value (drop i a)) (value (drop i b)))

module _ (a b : List ℕ) where
  pub common_start : common a b 0 ≡ count (bit_and (value a) (value b))
  unfolding common
  common_start = refl

  pub common_step : (i : ℕ) → i < length a → i < length b → get_or a i 0 < 2 ^ 64 → get_or b i 0 < 2 ^ 64
      → common a b i ≡ common a b (i + 1) + count (bit_and (get_or a i 0) (get_or b i 0))
  unfolding common
  common_step i ha hb va vb =
      ap₂ (λ (p q : List ℕ). count (bit_and (value p) (value q))) (drop-cons a i 0 ha) (drop-cons b i 0 hb)
      ∙ and-cons (get_or a i 0) (get_or b i 0) (drop (suc i) a) (drop (suc i) b) va vb
      ∙ ap (λ (j : ℕ). count (bit_and (value (drop j a)) (value (drop j b))) + count (bit_and (get_or a i 0) (get_or b i 0))) (sym (add-one i))

  pub common_end : (i : ℕ) → i ≡ length a → common a b i ≡ 0
  unfolding common value
  common_end i e =
      ap (λ (p : List ℕ). count (bit_and (value p) (value (drop i b)))) (ap (λ (j : ℕ). drop j a) e ∙ drop-length a) ∙ count_zero

-- ---- parts: what `&s[..l]` and `&s[l..]` are

pub front_length : (s : List ℕ) (l : ℕ) → l ≤ length s → length (take l s) ≡ l
front_length s l h = length-take-le l s h

pub rest_part : (s : List ℕ) (l : ℕ) → take (length s - l) (drop l s) ≡ drop l s
rest_part s l = take_all (length s - l) (drop l s) (le_of_eq (length-drop l s))

pub rest_length : (s : List ℕ) (l : ℕ) → length (take (length s - l) (drop l s)) ≡ length s - l
rest_length s l = ap length (rest_part s l) ∙ length-drop l s

-- ---- the planes of a row of 2 * l words

pub x_plane : (s : List ℕ) (l : ℕ) → length s ≡ 2 * l → x_of s ≡ value (take l s)
unfolding x_of
x_plane s l e = let half : length s / 2 ≡ l = omega arith in ap (λ (n : ℕ). value (take n s)) half

pub z_plane : (s : List ℕ) (l : ℕ) → length s ≡ 2 * l → z_of s ≡ value (drop l s)
unfolding z_of
z_plane s l e = let half : length s / 2 ≡ l = omega arith in ap (λ (n : ℕ). value (drop n s)) half
