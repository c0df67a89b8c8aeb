-- `pauli::rows::ys` meets its contract: what is counted so far, with what the words to come have in common. Assumes nothing.
use mathlib.Core.Path.{◌≡◌}
use Prim.Native.Nat.{◌<◌, ◌+◌, ◌%◌}
use lib.Bits.{bit_and}
use Rattle.model.specs.Pauli.{count}
use Rattle.pauli.specs.Rows.{value}
use Rattle.pauli.proofs.rows.ys.Given as goal

abbrev pub invariant-loop-v : goal.invariant-loop-v
invariant-loop-v l =
    (l.sum < 4) × ((l.sum + count (bit_and (value l.v-iterator.a.rest.now) (value l.v-iterator.b.rest.now))) % 4 ≡ count (bit_and (value l.x) (value l.z)) % 4)
