-- `support::families::scan` meets its contract: the scans done and those left, with the steps left, are the whole. Assumes nothing.
use mathlib.Core.Path.{ap, ◌∙◌}
use Rattle.std.specs.Prelude.{Ok, is_err}
use Rattle.lists.specs.declared.budget.Scan.TheVariants.{Clear}
use Rattle.lists.proofs.ScanLaws.{same_answer, answer_not}
use Rattle.support.proofs.RunLaws.{Scanning-more, Scanning-ends, Scanning-all, same_error}
use Rattle.support.proofs.families.scan.Goals as goal

pub loop-b-preserved : goal.loop-b-preserved
loop-b-preserved g c =
    Scanning-more _ _ _ _ _ _ _ c.loop-b.invariant c.in-Some.ensures.steps.0 c.scan.ensures _ _ c.in-Some.ensures.steps.1 (c.in_ok-stopped.was ∙ ap Ok c.in-Clear.is)

pub returns-in_default : goal.returns-in_default
returns-in_default g c =
    Scanning-ends _ _ _ _ _ _ _ c.loop-b.invariant c.in-Some.ensures.steps.0 c.scan.ensures _ (λ now q. c.in_default.not-Clear now (same_answer c.scan.result _ (Clear now) c.in_ok-stopped.was q)) c.in_ok-stopped.was

pub returns-in_err-stopped : goal.returns-in_err-stopped
returns-in_err-stopped g c =
    let e = ap is_err c.in_err-stopped.was in
    Scanning-ends _ _ _ _ _ _ _ c.loop-b.invariant c.in-Some.ensures.steps.0 c.scan.ensures _ (λ now q. answer_not c.scan.result (Clear now) e q) (same_error c.scan.result c.from_residual.result e c.from_residual.ensures.0)

pub returns : goal.returns
returns g c = Scanning-all _ _ _ _ _ c.loop-b.invariant c.in-None.ensures.steps.0
