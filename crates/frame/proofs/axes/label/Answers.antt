-- `frame::axes::label` meets its contract. Assumes nothing.
use mathlib.Core.Path.{refl}
use mathlib.Core.Logic.{⊎_elim}
use Rattle.model.specs.Frame.{axis}
use Rattle.frame.specs.Axes.{kind_of}
use Rattle.frame.specs.declared.axes.Kind.TheVariants.{Z, P}
use Rattle.frame.proofs.AxisLaws.{label_x, label_y, label_z}
use Rattle.frame.proofs.axes.label.Goals as goal

pub returns-in-X : goal.returns-in-X
returns-in-X c = λ f k held.
    let a = c.args in
    label_x a.n a.l a.q a.s.now f k c.requires.1 held a.kind c.tag_at.result c.in-X.is c.tag_at.ensures

pub returns-in-Y : goal.returns-in-Y
returns-in-Y c = λ f k held.
    let a = c.args in
    label_y a.n a.l a.q a.s.now f k c.requires.1 held a.kind c.tag_at-in-Y.result c.tag_at-in-Y-2.result c.xor.result c.in-Y.is c.tag_at-in-Y.ensures c.tag_at-in-Y-2.ensures c.xor.ensures

pub returns-in-Z : goal.returns-in-Z
unfolding axis kind_of
returns-in-Z c = λ f k held.
    let a = c.args in
    let t = c.tag_at-in-Z in
    ⊎_elim (λ z. label_z a.n a.l a.q a.s.now f k c.requires.1 held a.kind Z t.result refl z t.ensures)
    (λ p. label_z a.n a.l a.q a.s.now f k c.requires.1 held a.kind P t.result refl p t.ensures) c.in-Z.is
