-- `sliced::sliced::visit_two` meets its contract: an answer that is not clear is the last. Assumes nothing.
use mathlib.Core.Path.{sym, ap, ◌∙◌}
use Prim.Native.Nat.{◌-◌, ◌^◌}
use lib.ListN.{get_or}
use Rattle.lists.specs.declared.budget.Budget.{Budget}
use Rattle.lists.specs.declared.budget.Scan.{Scan}
use Rattle.sliced.specs.Steps.{visited, and_then}
use Rattle.sliced.proofs.BlockWalk.{last_one}
use Rattle.sliced.proofs.sliced.visit_two.Goals as goal
use Rattle.sliced.proofs.sliced.visit_two.Goals.{Start}

-- the second visit
abbrev second : Start → Budget → Scan
second s = visited s.args.next (get_or s.args.words 1 0) (2 ^ 64 - 1)

pub returns-in_default : goal.returns-in_default
returns-in_default c =
    sym (last_one c.visit.result (second (goal.at.returns-in_default c).Start) c.in_default.not-Clear) ∙ ap (λ (r : Scan). and_then r (second (goal.at.returns-in_default c).Start)) c.visit.ensures

pub returns-in-Clear : goal.returns-in-Clear
unfolding and_then
returns-in-Clear c =
    c.visit-in-Clear.ensures ∙ ap (λ (r : Scan). and_then r (second (goal.at.returns-in-Clear c).Start)) (sym c.in-Clear.is ∙ c.visit.ensures)
