-- `sliced::sliced::settled` meets its contract: the blocks before b are settled. Assumes nothing.
use Rattle.sliced.specs.Steps.{Settled}
use Rattle.sliced.proofs.sliced.settled.Given as goal

abbrev pub invariant-loop-b : goal.invariant-loop-b
invariant-loop-b l = Settled l.h l.room.base l.room.cap l.room.n l.len l.live.at l.b
