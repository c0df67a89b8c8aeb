-- `pauli::rows::multiply` meets its contract: both planes are done up to i, and what is folded so far has the parity of the crossings passed.
-- Assumes nothing.
use mathlib.Core.Path.{◌≡◌}
use Prim.Native.Nat.{◌+◌, ◌-◌, ◌%◌}
use lib.Bits.{bit_and}
use Rattle.model.specs.Pauli.{count}
use Rattle.pauli.specs.Rows.{value_at}
use Rattle.pauli.proofs.RowLaws.{crossing, Halfway}
use Rattle.pauli.proofs.rows.multiply.Given as goal

abbrev pub invariant-loop-i : goal.invariant-loop-i
invariant-loop-i l =
    Halfway l.initial.frame l.at l.by l.l l.i l.frame
    × ((count l.acc + crossing l.initial.frame (l.at + l.l) l.by l.l l.i) % 2 ≡ count (bit_and (value_at l.initial.frame (l.at + l.l) l.l) (value_at l.initial.frame l.by l.l)) % 2)
