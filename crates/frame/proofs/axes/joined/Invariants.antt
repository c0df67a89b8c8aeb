-- `frame::axes::joined` meets its contract: both planes are written up to i, and what is folded so far has the parity of the crossings passed.
-- Assumes nothing.
use mathlib.Core.Path.{◌≡◌}
use Prim.Native.Nat.{◌+◌, ◌%◌}
use lib.Bits.{bit_and}
use Rattle.model.specs.Pauli.{count}
use Rattle.pauli.specs.Rows.{value_at}
use Rattle.pauli.proofs.RowLaws.{crossing}
use Rattle.frame.proofs.AxisLaws.{Joining}
use Rattle.frame.proofs.axes.joined.Given as goal

abbrev pub invariant-loop-i : goal.invariant-loop-i
invariant-loop-i l =
    Joining l.s l.at l.by l.l l.i l.out
    × ((count l.acc + crossing l.s (l.at + l.l) l.by l.l l.i) % 2 ≡ count (bit_and (value_at l.s (l.at + l.l) l.l) (value_at l.s l.by l.l)) % 2)
