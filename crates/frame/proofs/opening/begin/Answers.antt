-- `frame::opening::begin` meets its contract: the rows of the qubits before `q` are fresh. Assumes nothing.
use Rattle.frame.proofs.FreshLaws.{begun_more}
use mathlib.Core.Path.{◌∙◌}
use native.Mathlib.Omega.{arith}
use Rattle.frame.proofs.opening.begin.Goals as goal

pub loop-q-preserved : goal.loop-q-preserved
loop-q-preserved c =
    let x = c.single in
    let z = c.single-in-loop-q in (
      z.ensures.same_length ∙ x.ensures.same_length ∙ c.loop-q.invariant.0,
      begun_more c.loop-q.s x.new.s z.new.s c.args.l c.loop-q.q (omega arith) c.loop-q.invariant.1 x.ensures z.ensures,
    )
