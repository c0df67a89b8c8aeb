-- What the code computes of a row's sign and of two axes is `model`'s; and signs as the machine has them. Assumes nothing.
use mathlib.Core.Path.{◌≡◌, refl, sym, ap, ap₂, ◌∙◌, subst}
use mathlib.Core.Logic.{inl, inr}
use mathlib.Core.List.{List}
use Prim.Native.Nat.{ℕ, zero, suc, ◌+◌, ◌-◌, ◌/◌, ◌%◌}
use native.Mathlib.Omega.{arith}
use lib.Bits.{bit_and}
use lib.IntN.{ℤ, pos, negsuc}
use lib.ListN.{length, drop, take}
use mir.Val.{to_z, of_z}
use mir.Syntax.{w8}
use Rattle.model.specs.Pauli.{Pauli, count, quarter, sign_of, sign, apart, anti}
use Rattle.model.specs.Demands.{IsSign}
use Rattle.pauli.specs.Rows.{value, x_of, z_of, of_row, answer}
use Rattle.std.proofs.Common.{Some, None}
use Rattle.pauli.proofs.Words.{rest_part}

-- what two crossings of a row's planes with another's say
pub crossed : (a b : List ℕ) (p q : ℕ) → length a ≡ length b
    → p ≡ count (bit_and (value (take (length a / 2) a)) (value (take (length b - length a / 2) (drop (length a / 2) b)))) % 2
    → q ≡ count (bit_and (value (take (length a - length a / 2) (drop (length a / 2) a))) (value (take (length a / 2) b))) % 2
    → anti (of_row 0 a) (of_row 0 b) ≡ (p + q) % 2
unfolding anti apart of_row x_of z_of
crossed a b p q e hp hq =
    let l : ℕ = length a / 2 in
    let hp' = hp ∙ ap (λ (s : List ℕ). count (bit_and (value (take l a)) (value s)) % 2) (rest_part b l ∙ ap (λ (n : ℕ). drop (n / 2) b) e) in
    let hq' = hq ∙ ap₂ (λ (s t : List ℕ). count (bit_and (value s) (value t)) % 2) (rest_part a l) (ap (λ (n : ℕ). take (n / 2) b) e) in
    omega (arith, hp', hq')

-- what the Y factors of a row say of its quarter
pub quartered : (row : List ℕ) (phase y : ℕ)
    → y ≡ count (bit_and (value (take (length row / 2) row)) (value (take (length row - length row / 2) (drop (length row / 2) row)))) % 4
    → quarter (of_row phase row) ≡ (phase + 4 - y) % 4
unfolding quarter of_row x_of z_of
quartered row phase y h =
    let l : ℕ = length row / 2 in
    let h' = h ∙ ap (λ (s : List ℕ). count (bit_and (value (take l row)) (value s)) % 4) (rest_part row l) in
    omega (arith, h')

-- the answers by quarter
pub answer_plus : (p : Pauli) → quarter p ≡ 0 → Some (pos 1) ≡ answer (sign p)
unfolding sign sign_of answer
answer_plus p e = sym (ap (λ (q : ℕ). answer (sign_of q)) e)

pub answer_minus : (p : Pauli) → quarter p ≡ 2 → Some (negsuc 0) ≡ answer (sign p)
unfolding sign sign_of answer
answer_minus p e = sym (ap (λ (q : ℕ). answer (sign_of q)) e)

pub answer_none : (p : Pauli) → (quarter p ≡ 0 → ⊥) → (quarter p ≡ 2 → ⊥) → None ≡ answer (sign p)
unfolding sign sign_of answer
answer_none p f g = go (quarter p) f g
  where
    go : (q : ℕ) → (q ≡ 0 → ⊥) → (q ≡ 2 → ⊥) → None ≡ answer (sign_of q)
    go zero f g = absurd (f refl)
    go (suc zero) f g = refl
    go (suc (suc zero)) f g = absurd (g refl)
    go (suc (suc (suc q))) f g = refl

-- ---- an i8 is a ℤ, and the machine reads it off its bits, `to_z w8 (of_z w8 a)`, which computes at 1 and at -1

pub sign_cases : (P : ℤ → Type 0) → P (pos 1) → P (negsuc 0) → (a : ℤ) → IsSign a → P a
sign_cases P p n a (inl e) = subst P (sym e) p
sign_cases P p n a (inr e) = subst P (sym e) n

abbrev pub bits8 : ℤ → ℤ
bits8 a = to_z w8 (of_z w8 a)

pub bits8_sign : (a : ℤ) → IsSign a → bits8 a ≡ a
bits8_sign = sign_cases (λ (a : ℤ). bits8 a ≡ a) refl refl
