-- `sliced::sliced::kill` meets its contract: the entry is marked dead in place, or the list is rebuilt. Assumes nothing.
use mathlib.Core.Path.{refl}
use Prim.Native.Nat.{◌+◌}
use lib.ListN.{get_or}
use Rattle.sliced.proofs.SliceLaws.{Found-is, not_lost, marked_to, Rebuilt-to}
use Rattle.sliced.proofs.sliced.kill.Goals as goal

pub returns-in_default-clause-done : goal.returns-in_default-clause-done
returns-in_default-clause-done c = λ m d pos r ld rise src lp q. absurd (not_lost c.args.h.now c.args.at c.args.room.base c.args.room.cap c.args.room.n c.args.live.at c.args.axes c.args.live.events m d pos (get_or c.args.h.now c.args.at 0) (get_or c.args.h.now (c.args.at + 1) 0) c.requires.0.fits c.requires.0.counts r refl refl c.args.id c.place_of.result c.if-room-len.false c.place_of.ensures c.in_default.is rise lp q)

pub returns-then-dead-len-clause-done : goal.returns-then-dead-len-clause-done
returns-then-dead-len-clause-done c = λ m d pos r ld rise src lp q. (
  refl,
  marked_to c.args.h.now c.args.at c.args.room.base c.args.room.cap c.args.room.n c.args.live.at c.args.axes c.args.live.events m d pos (get_or c.args.h.now c.args.at 0) (get_or c.args.h.now (c.args.at + 1) 0) c.requires.0.fits c.requires.0.counts r refl refl c.in-Some.pos c.mark_dead.new.h
      (Found-is c.args.h.now c.args.at c.args.room.base c.args.room.cap c.args.room.n c.args.live.at c.args.axes c.args.live.events m d pos (get_or c.args.h.now c.args.at 0) (get_or c.args.h.now (c.args.at + 1) 0) c.requires.0.fits c.requires.0.counts r refl refl c.args.id c.in-Some.pos c.place_of.result c.if-room-len.false c.place_of.ensures c.in-Some.is rise lp q) lp c.if-dead-len.true c.mark_dead.ensures,
)

pub returns-clause-done : goal.returns-clause-done
returns-clause-done c = λ m d pos r ld rise src lp q. (refl, Rebuilt-to c.args.h.now c.args.at c.args.room.base c.args.room.cap c.args.room.n c.args.live.at c.args.axes c.args.live.events m d pos (get_or c.args.h.now c.args.at 0) (get_or c.args.h.now (c.args.at + 1) 0) c.requires.0.fits c.requires.0.counts r refl refl c.rebuild.result c.in_ok-k.k c.rebuild.new.h c.if-dead-len.false c.in_ok-k.was src c.rebuild.ensures)
