-- `sliced::sliced::mark` meets its contract: the words of the digits that the walk gave are marked. Assumes nothing.
use Rattle.sliced.proofs.BlockLaws.{Marking}
use Rattle.sliced.proofs.sliced.mark.Given as goal

abbrev pub invariant-loop-p : goal.invariant-loop-p
invariant-loop-p l = Marking l.initial.h l.at l.odd l.set l.bit l.p-iterator.left l.h
