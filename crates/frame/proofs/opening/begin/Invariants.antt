-- `frame::opening::begin` meets its contract: the rows of the qubits before `q` are fresh. Assumes nothing.
use Rattle.frame.specs.Begun.{Begun}
use lib.ListN.{length}
use mathlib.Core.Path.{◌≡◌}
use Rattle.frame.proofs.opening.begin.Given as goal

abbrev pub invariant-loop-q : goal.invariant-loop-q
invariant-loop-q l = (length l.s ≡ length l.initial.s) × Begun l.q l.l l.s
