-- `seeking::looks::sought_kind` meets its contract: by the kinds. Assumes nothing.
use mathlib.Core.Logic.{⊎_elim}
use Rattle.store.proofs.LentLaws.{planes_small}
use Rattle.store.specs.Promises.{told_look}
use Rattle.frame.proofs.AxisLaws.{axis_x, axis_z, axis_p}
use Rattle.seeking.proofs.SeekLaws.{look_y}
use native.Mathlib.Omega.{arith}
use Rattle.seeking.proofs.looks.sought_kind.Goals as goal

pub returns-in-X : goal.returns-in-X
returns-in-X c = λ m held. c.in_place.ensures m held (λ row i. axis_x c.args.kind c.args.q c.args.z.now.l row m.frame c.in-X.is i)

pub returns-then-z-le3 : goal.returns-then-z-le3
returns-then-z-le3 c = λ m held. look_y c.args.kind c.args.q (told_look c.with_row.result) m c.in-Y.is (c.with_row.ensures m held)

pub with_row-requires-else-z-le3 : goal.with_row-requires-else-z-le3
with_row-requires-else-z-le3 c = (c.requires.0, c.requires.1, omega (arith, planes_small c.args.z.now c.args.s.now c.requires.0), omega arith)

pub returns-else-z-le3 : goal.returns-else-z-le3
returns-else-z-le3 c = λ m held. look_y c.args.kind c.args.q (told_look c.with_row-else-z-le3.result) m c.in-Y.is (c.with_row-else-z-le3.ensures m held)

pub returns-in-Z : goal.returns-in-Z
returns-in-Z c = λ m held. c.in_place-in-Z.ensures m held (λ row i.
    ⊎_elim (λ z. axis_z c.args.kind c.args.q c.args.z.now.l row m.frame z i) (λ p. axis_p c.args.kind c.args.q c.args.z.now.l row m.frame p i) c.in-Z.is)
