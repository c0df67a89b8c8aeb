-- `answers::write_found` meets its contract, by the sign. Assumes nothing.
use Rattle.text.proofs.SignLaws.{Wrote-minus, Wrote-plus}
use Rattle.text.proofs.answers.write_found.Goals as goal

pub returns-then-sign-lt0 : goal.returns-then-sign-lt0
returns-then-sign-lt0 c = Wrote-minus _ _ _ _ _ _ _ c.ranges.sign c.if-sign-lt0.true c.write_by.ensures

pub returns : goal.returns
returns c = Wrote-plus _ _ _ _ _ _ _ c.ranges.sign c.if-sign-lt0.false c.write_by-2.ensures
