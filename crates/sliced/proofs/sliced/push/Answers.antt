-- `sliced::sliced::push` meets its contract: `append` puts the entry behind the others, and one count grows. Assumes nothing.
use mathlib.Core.Path.{refl}
use lib.ListN.{get_or}
use Rattle.sliced.specs.Blocks.{fresh}
use Rattle.sliced.proofs.SliceLaws.{pushed_to}
use native.Mathlib.Omega.{arith}
use Rattle.sliced.proofs.sliced.push.Goals as goal

pub returns-clause-done : goal.returns-clause-done
returns-clause-done c = λ m d r l. (
  refl,
  pushed_to c.args.h.now c.args.at c.args.room.base c.args.room.cap c.args.room.n (fresh c.args.id c.args.x c.args.z) c.append.new.h m d (get_or c.args.h.now c.args.at 0)
      c.requires.0.counts (omega (arith, c.requires.0.fits)) r refl c.append.ensures,
)
