-- `marking::rows::axis_into` meets its contract: a row of the frame, or the product of both. Assumes nothing.
use mathlib.Core.Path.{refl}
use mathlib.Core.Logic.{⊎_elim}
use Rattle.model.specs.Frame.{axis}
use Rattle.frame.specs.Axes.{axis_of, either, kind_of}
use Rattle.frame.proofs.AxisLaws.{axis_x, axis_y, axis_z, axis_p}
use Rattle.marking.proofs.rows.axis_into.Goals as goal

pub returns-in-X : goal.returns-in-X
unfolding axis axis_of either kind_of
returns-in-X c = λ r k held.
    let a = c.args in
    (refl, axis_x a.kind a.q a.l c.row_into.new.out r c.in-X.is (c.row_into.ensures r k held))

pub returns-in-Y : goal.returns-in-Y
returns-in-Y c = λ r k held.
    let a = c.args in
    let w = c.y_product.ensures.row r k held in
    (w.0, axis_y a.kind a.q a.l c.y_product.new.out r c.in-Y.is w.1)

pub returns-in-Z : goal.returns-in-Z
unfolding axis axis_of either kind_of
returns-in-Z c = λ r k held.
    let a = c.args in
    let row = c.row_into-in-Z in
    (refl, ⊎_elim (λ z. axis_z a.kind a.q a.l row.new.out r z (row.ensures r k held)) (λ p. axis_p a.kind a.q a.l row.new.out r p (row.ensures r k held)) c.in-Z.is)
