-- `cases::case8`: each check follows from the contracts. Assumes nothing.
use mathlib.Core.Path.{◌∙◌}
use borrow.Author.Tests.{eq-eqb}
use Rattle.cases.proofs.SeenLaws.{case8_is}
use Rattle.cases.proofs.case8.Goals as goal

pub expect-requires : goal.expect-requires
expect-requires c = c.is_ok.ensures.value ∙ (c.gate_sx.ensures _ _ c.fresh.ensures).0

pub expect-requires-2 : goal.expect-requires-2
expect-requires-2 c = eq-eqb _ 1 (c.of_y.ensures _ _ (c.gate_sx.ensures _ _ c.fresh.ensures).1 ∙ case8_is)
