-- `pauli::rows::crossed_twice` meets its contract: what is folded so far has the parity of the words passed. Assumes nothing.
use mathlib.Core.Path.{◌≡◌}
use Prim.Native.Nat.{◌+◌, ◌%◌}
use lib.Bits.{bit_and}
use Rattle.model.specs.Pauli.{count}
use Rattle.pauli.specs.Rows.{value}
use Rattle.pauli.proofs.Words.{common}
use Rattle.pauli.proofs.rows.crossed_twice.Given as goal

abbrev pub invariant-loop-i : goal.invariant-loop-i
invariant-loop-i l =
    (count l.acc + common l.x l.w l.i + common l.z l.v l.i) % 2 ≡ (count (bit_and (value l.x) (value l.w)) + count (bit_and (value l.z) (value l.v))) % 2
