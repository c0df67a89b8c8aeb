-- `sliced::sliced::prepare` meets its contract: a fresh block is opened, one in use is as it was. Assumes nothing.
use Rattle.model.specs.Events.{words}
use Rattle.sliced.proofs.BlockLaws.{Opened-fresh}
use Rattle.sliced.proofs.sliced.prepare.Goals as goal

pub returns-then-len-eq0 : goal.returns-then-len-eq0
unfolding words
returns-then-len-eq0 c =
    rw c.live.ensures (Opened-fresh c.args.h.now c.args.room.base c.args.room.cap c.args.room.n c.args.len c.clear.new.s c.requires.0 c.requires.1 c.if-len-eq0.true (rw c.masks.ensures at c.clear.ensures))
