-- `pauli::rows::crossings` meets its contract: what is folded so far, with what the words to come have in common, has the parity of the whole.
-- Assumes nothing.
use mathlib.Core.Path.{◌≡◌}
use Prim.Native.Nat.{◌+◌, ◌%◌}
use lib.Bits.{bit_and}
use Rattle.model.specs.Pauli.{count}
use Rattle.pauli.specs.Rows.{value}
use Rattle.pauli.proofs.rows.crossings.Given as goal

abbrev pub invariant-loop-v : goal.invariant-loop-v
invariant-loop-v l =
    (count l.acc + count (bit_and (value l.v-iterator.a.rest.now) (value l.v-iterator.b.rest.now))) % 2 ≡ count (bit_and (value l.a) (value l.b)) % 2
