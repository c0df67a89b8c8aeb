-- `pauli::fill::copy` meets its contract: the words before `i` are copied. Assumes nothing.
use Rattle.pauli.specs.Fill.{Written}
use Rattle.std.specs.Prelude.{slice_index}
use Rattle.pauli.proofs.fill.copy.Given as goal

abbrev pub invariant-loop-i : goal.invariant-loop-i
invariant-loop-i l = Written l.initial.s l.at l.i (slice_index l.of) l.s
