-- A set of numbers in words of 64 digits: i stands in word i / 64, at digit i % 64. Assumes nothing.
use Rattle.std.specs.Prelude.{◌≡◌, List, ℕ, ◌/◌, ◌%◌, length, get_or}
use Rattle.model.specs.Pauli.{has}

-- 1 where i is in the set, else 0
abbrev pub member : List ℕ → ℕ → ℕ
member s i = has (get_or s (i / 64) 0) (i % 64)

-- t is s with v at i, and all else as it was
pub record Put (s : List ℕ) (i v : ℕ) (t : List ℕ) : Type 0 where
  pub here : member t i ≡ v
  pub other : (j : ℕ) → (j ≡ i → ⊥) → member t j ≡ member s j
  pub words : (k : ℕ) → (k ≡ i / 64 → ⊥) → get_or t k 0 ≡ get_or s k 0
  pub long : length t ≡ length s
