-- The two steps of a walk over the set digits of a word. `has w p` of `model` is digit p of w. Assumes nothing.
use Rattle.std.specs.Prelude.{◌≡◌, ℕ, ◌+◌, ◌^◌, ◌<◌, Option, None, Some}
use Rattle.model.specs.Pauli.{has}

-- p is the place of the lowest set digit of the word w
pub record Lowest (w p : ℕ) : Type 0 where
  pub place : p < 64
  pub one : has w p ≡ 1
  pub below : (j : ℕ) → j < p → has w j ≡ 0

-- v is w without the set digit p
pub record Took (w p v : ℕ) : Type 0 where
  pub sum : v + 2 ^ p ≡ w
  pub gone : has v p ≡ 0
  pub other : (j : ℕ) → (j ≡ p → ⊥) → has v j ≡ has w j

-- v is w without its lowest set digit
abbrev pub Rest : ℕ → ℕ → Type 0
Rest w v = (p : ℕ) → Lowest w p → Took w p v

-- a walk with the digits of w left gives the lowest of them and goes on with the others, or ends where there are none
abbrev pub GivesDigit : (w : ℕ) → Option ℕ → (v : ℕ) → Type 0
GivesDigit w None v = (w ≡ 0) × (v ≡ 0)
GivesDigit w (Some p) v = Lowest w p × Took w p v
