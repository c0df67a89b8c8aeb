-- `seeking::looks::relative` meets its contract, by what is told of the row's sign and by the sign that the partner keeps. Assumes nothing.
use Rattle.frame.proofs.AxisLaws.{is_signed}
use Rattle.seeking.proofs.SeekLaws.{Relative-none, Relative-same, Relative-other}
use Rattle.seeking.proofs.looks.relative.Goals as goal

pub returns-in-None : goal.returns-in-None
returns-in-None c =
    let a = c.args in
    let r = c.row_sign in
    Relative-none a.row.now r.result r.ensures.sign a.id a.steps a.kept c.in-None.is

pub returns-then-kept-eq1 : goal.returns-then-kept-eq1
returns-then-kept-eq1 c =
    let a = c.args in
    let r = c.row_sign in
    Relative-same a.row.now r.result r.ensures.sign a.id a.steps a.kept c.in-Some.own (is_signed r.result c.in-Some.own r.ensures.one c.in-Some.is) c.in-Some.is
    c.if-kept-eq1.true

pub returns-else-kept-eq1 : goal.returns-else-kept-eq1
returns-else-kept-eq1 c =
    let a = c.args in
    let r = c.row_sign in
    Relative-other a.row.now r.result r.ensures.sign a.id a.steps a.kept c.in-Some.own (is_signed r.result c.in-Some.own r.ensures.one c.in-Some.is) c.in-Some.is
    c.opposite-sign.result c.opposite-sign.ensures.0 c.opposite-sign.ensures.1 c.if-kept-eq1.false
