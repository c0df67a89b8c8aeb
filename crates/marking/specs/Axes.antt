-- The sets of a row that is to be recorded. Assumes nothing.
use Rattle.std.specs.Prelude.{◌≡◌, List, ℕ, ◌+◌}
use Rattle.model.specs.Pauli.{Pauli}
use Rattle.pauli.specs.Rows.{value_at}

-- behind their first word, the words are the sets of p: "phases ignored"
pub record Sets (l : ℕ) (s : List ℕ) (p : Pauli) : Type 0 where
  pub x : value_at s 1 l ≡ p.x
  pub z : value_at s (1 + l) l ≡ p.z
