-- `sliced::sliced::mark` meets its contract: the words of the digits that the walk gave are marked. Assumes nothing.
use native.Mathlib.Omega.{arith}
use Rattle.sliced.proofs.BlockLaws.{Marking-all}
use Rattle.sliced.proofs.sliced.mark.Goals as goal

pub returns : goal.returns
returns c =
    let a = c.args in
    Marking-all a.h.now a.at a.odd a.set a.bit c.loop-p.p-iterator.left c.loop-p.h (omega (arith, c.in-None.ensures.steps.0)) c.loop-p.invariant
