-- `sliced::sliced::mark_dead` meets its contract: one live digit is cleared. Assumes nothing.
use Rattle.model.specs.Events.{words}
use Rattle.sliced.proofs.BlockLaws.{marked_dead}
use Rattle.sliced.proofs.sliced.mark_dead.Goals as goal

pub returns : goal.returns
unfolding words
returns c =
    rw c.live-live.ensures (marked_dead c.args.h.now c.args.room.base c.args.room.cap c.args.room.n c.args.pos c.requires.0 c.requires.1)
