-- A loop over the set digits of a word, lowest first: `for p in bits(w) { .. }`, which takes `lowest` and `rest` of w in turn. Its measure is w.
-- `Passed P w₀ w`: P holds of each set digit of w₀ that the walk, with w left to do, digit passed.
--     passed_none    where the loop begins
--     Passed-more    a turn, with P of the digit that it took
--     Passed-all     where it ends, P holds of every set digit
-- Assumes nothing.
use mathlib.Core.Path.{◌≡◌, sym, subst, ◌∙◌}
use mathlib.Core.Logic.{◌⊎◌, inl, inr, ⊎_elim}
use Prim.Native.Nat.{ℕ, ◌<◌}
use native.Mathlib.Omega.{arith}
use lib.Pow.{pow_pos}
use Rattle.model.specs.Pauli.{has}
use Rattle.model.proofs.Digits.{has_zero}
use Rattle.pauli.specs.Digits.{Took}
use Rattle.pauli.proofs.Digits.{three}

-- the measure falls
pub Took-less : (w p v : ℕ) → Took w p v → v < w
Took-less w p v t = omega (arith, t.sum, pow_pos p)

-- two numbers are the same, or not
pub same? : (i j : ℕ) → (i ≡ j) ⊎ (i ≡ j → ⊥)
same? i j = ⊎_elim (λ l. inr (λ e. omega arith)) (λ r. ⊎_elim (λ e. inl e) (λ l. inr (λ e. omega arith)) r) (three i j)

abbrev pub Passed : (ℕ → Type 0) → ℕ → ℕ → Type 0
Passed P w₀ w = (j : ℕ) → has w₀ j ≡ 1 → has w j ≡ 0 → P j

module _ (P : ℕ → Type 0) where
  pub passed_none : (w : ℕ) → Passed P w w
  passed_none w j a b = absurd (omega arith)

  pub Passed-more : (w₀ w p v : ℕ) → Took w p v → Passed P w₀ w → P p → Passed P w₀ v
  Passed-more w₀ w p v t all here j a b =
      ⊎_elim (λ e. subst P (sym e) here) (λ d. all j a (sym (t.other j d) ∙ b)) (same? j p)

  pub Passed-all : (w₀ : ℕ) → Passed P w₀ 0 → (j : ℕ) → has w₀ j ≡ 1 → P j
  Passed-all w₀ all j a = all j a (has_zero j)
