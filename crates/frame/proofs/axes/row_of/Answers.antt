-- `frame::axes::row_of` meets its contract. Assumes nothing.
use Rattle.frame.proofs.AxisLaws.{first_words, second_words}
use Rattle.frame.proofs.axes.row_of.Goals as goal

pub returns-in-X : goal.returns-in-X
returns-in-X c =
    let a = c.args in
    first_words a.l a.q a.basis a.xs.now a.zs.now c.in-X.is

pub returns-in-Z : goal.returns-in-Z
returns-in-Z c =
    let a = c.args in
    second_words a.l a.q a.basis a.xs.now a.zs.now c.in-Z.is
