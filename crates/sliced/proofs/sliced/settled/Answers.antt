-- `sliced::sliced::settled` meets its contract: the blocks before b are settled. Assumes nothing.
use Rattle.model.specs.Events.{words}
use Rattle.sliced.proofs.RebuildLaws.{Settled-more}
use Rattle.sliced.proofs.sliced.settled.Goals as goal

pub loop-b-preserved : goal.loop-b-preserved
unfolding words
loop-b-preserved c =
    Settled-more c.args.h.now c.args.room.base c.args.room.cap c.args.room.n c.args.len c.args.live.at c.loop-b.b c.loop-b.invariant c.loop-b-test.true (rw c.live.ensures at c.if-h-live.false) (c.all_live.ensures c.if-not-all_live.false)
