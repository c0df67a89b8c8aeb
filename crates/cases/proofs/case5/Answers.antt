-- `cases::case5`: each check follows from the contracts. Assumes nothing.
use mathlib.Core.Path.{ap, ◌∙◌}
use borrow.Author.Tests.{eq-eqb}
use Rattle.cases.specs.Seen.{number_of}
use Rattle.cases.proofs.SeenLaws.{case5_is}
use Rattle.cases.proofs.case5.Goals as goal

pub expect-requires : goal.expect-requires
expect-requires c = c.is_ok.ensures.value ∙ (c.y_product.ensures.row _ _ c.fresh.ensures).0

pub expect-requires-2 : goal.expect-requires-2
expect-requires-2 c =
    let y = c.y_product in
    eq-eqb _ 1 (c.number.ensures ∙ ap number_of (c.row_sign.ensures.sign 1 _ y.ensures.long (y.ensures.row _ _ c.fresh.ensures).1) ∙ case5_is)
