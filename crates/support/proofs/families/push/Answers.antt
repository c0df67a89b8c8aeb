-- `support::families::push` meets its contract: the calls done and those left are the whole. Assumes nothing.
use mathlib.Core.Path.{ap, ◌∙◌}
use Rattle.std.specs.Prelude.{is_ok, is_err}
use Rattle.support.proofs.RunLaws.{Going-more, Going-stops, Going-all}
use Rattle.support.proofs.families.push.Goals as goal

pub loop-b-preserved : goal.loop-b-preserved
loop-b-preserved g c = (
  c.push.ensures.long ∙ c.loop-b.invariant.0,
  Going-more _ _ _ _ _ _ _ c.loop-b.invariant.1 c.in-Some.ensures.steps.0 _ _ c.in-Some.ensures.steps.1 c.push.ensures.done (ap is_ok c.in_ok-push.was),
)

pub returns-in_err-push-clause-done : goal.returns-in_err-push-clause-done
returns-in_err-push-clause-done g c =
    Going-stops _ _ _ _ _ _ _ c.loop-b.invariant.1 c.in-Some.ensures.steps.0 _ _ c.push.ensures.done (ap is_err c.in_err-push.was) c.from_residual.ensures.0

pub returns-clause-done : goal.returns-clause-done
returns-clause-done g c = Going-all _ _ _ _ _ c.loop-b.invariant.1 c.in-None.ensures.steps.0
