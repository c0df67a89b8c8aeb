-- `frame::axes::axis_row` meets its contract. Assumes nothing.
use Rattle.frame.proofs.AxisLaws.{lent_length, lent_row}
use Rattle.frame.proofs.axes.axis_row.Goals as goal

pub returns-clause-long : goal.returns-clause-long
returns-clause-long c =
    let a = c.args in
    lent_length a.n a.l a.q a.s.now _ a.basis c.requires.0 c.requires.1 c.row_of.ensures

pub returns-clause-row : goal.returns-clause-row
returns-clause-row c =
    let a = c.args in
    lent_row a.n a.l a.q a.s.now _ a.basis c.requires.0 c.requires.1 c.row_of.ensures
