-- `marking::rows::product_into` meets its contract: the three joins make the subset. Assumes nothing.
use Rattle.model.specs.Frame.{z_at, paulis}
use Rattle.frame.specs.Axes.{axis_of, either}
use Rattle.marking.proofs.RowMarks.{clear_Sets, product_Sets}
use Rattle.marking.proofs.rows.product_into.Goals as goal

pub returns : goal.returns
unfolding axis_of either
returns c = λ r k held.
    let a = c.args in
    let r1 = c.axis_row in
    let r2 = c.axis_row-2 in
    let r3 = c.axis_row-3 in
    product_Sets a.l a.i c.clear.new.s (z_at paulis r a.a) (z_at paulis r a.b) (axis_of a.basis r a.t) c.requires.4
    (clear_Sets a.l a.out.now c.clear.new.s c.clear.ensures)
    r1.result.now r2.result.now r3.result.now c.join.new.out c.join-2.new.out c.join-3.new.out
    r1.ensures.long r2.ensures.long r3.ensures.long (r1.ensures.row r k held) (r2.ensures.row r k held) (r3.ensures.row r k held)
    c.join.ensures c.join-2.ensures c.join-3.ensures
