-- `lists::scalar::note_dead` meets its contract. Assumes nothing.
use mathlib.Core.Path.{refl}
use Rattle.lists.proofs.ScalarLaws.{noted_kept, noted_dropped}
use native.Mathlib.Omega.{arith}
use Rattle.lists.proofs.scalar.note_dead.Goals as goal

pub returns-then-dead-len-clause-done : goal.returns-then-dead-len-clause-done
returns-then-dead-len-clause-done c =
    let a = c.args in
    λ ids d m l f.
    (refl, noted_kept a.h.now a.at a.base a.cap a.live.at ids d c.requires.0 m (omega arith))

pub returns-clause-done : goal.returns-clause-done
returns-clause-done c =
    let a = c.args in
    λ ids d m l f. (
      refl,
      noted_dropped a.h.now a.at a.base a.cap a.live.at ids d c.requires.0 m a.live.events f c.drop_dead.new.h c.drop_dead.result
          c.drop_dead.ensures _ c.in_ok-k.was (omega arith),
    )
