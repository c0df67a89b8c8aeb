-- `pauli::rows::exchange` meets its contract: the words before `i` are done. Assumes nothing.
use Rattle.pauli.specs.Rows.{Exchanged}
use Rattle.pauli.proofs.rows.exchange.Given as goal

abbrev pub invariant-loop-i : goal.invariant-loop-i
invariant-loop-i l = Exchanged l.initial.frame l.at l.by l.i l.frame
