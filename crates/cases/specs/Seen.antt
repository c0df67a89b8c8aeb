-- Signs and rows as numbers, for the checks of `cases`. Assumes nothing.
use Rattle.std.specs.Prelude.{ℕ, ℤ, Option, Some, None, cond, ◌&&◌, eqb}
use Rattle.std.proofs.Common.{of_z}
use Rattle.std.specs.Int.{w8}
use Rattle.model.specs.Pauli.{Pauli, sign}
use Rattle.pauli.specs.Rows.{answer}

-- 1 for +1, told by its byte, 2 for any other sign, 0 for none
unfoldable pub number_of : Option ℤ → ℕ
number_of (Some v) = cond (eqb (of_z w8 v) 1) 1 2
number_of None = 0

-- the number of a row's sign where the row is Y on qubit 0, else 3
unfoldable pub of_y : Pauli → ℕ
of_y p = cond (eqb p.x 1 && eqb p.z 1) (number_of (answer (sign p))) 3
