-- The fresh rows that an opening writes (src/opening.rt). Assumes nothing.
use Rattle.std.specs.Prelude.{cond, List, ℕ, ◌+◌, ◌*◌, ◌<◌, eqb}
use Rattle.model.specs.Frame.{pauli_x, pauli_z}
use Rattle.frame.specs.Places.{row_place, IsRow}

-- the words that are all 0 but for v at j
unfoldable pub only : (j v i : ℕ) → ℕ
only j v i = cond (eqb i j) v 0

-- the rows of the first n qubits are fresh
pub record Begun (n l : ℕ) (t : List ℕ) : Type 0 where
  pub x : (q : ℕ) → q < n → IsRow l t (row_place l (2 * q)) (pauli_x q)
  pub z : (q : ℕ) → q < n → IsRow l t (row_place l (2 * q + 1)) (pauli_z q)
