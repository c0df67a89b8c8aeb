-- `seeking::looks::sought_y` meets its contract: the row written is the axis y. Assumes nothing.
use mathlib.Core.Bool.{false}
use mathlib.Core.Path.{refl}
use Rattle.model.proofs.Members.{clash}
use Rattle.frame.specs.Axes.{kind_of}
use Rattle.store.proofs.LentLaws.{frames-Held}
use Rattle.seeking.proofs.looks.sought_y.Goals as goal

pub returns-in_err-y_product : goal.returns-in_err-y_product
returns-in_err-y_product c = λ m held. absurd (clash false (c.in_err-y_product.ensures.row m.frame m.sketch (frames-Held c.args.z.now c.args.s.now c.requires.0 m held.stored)).0 refl)

pub returns : goal.returns
unfolding kind_of
returns c = λ m held. c.sought.ensures m held (c.in_ok-y_product.ensures.row m.frame m.sketch (frames-Held c.args.z.now c.args.s.now c.requires.0 m held.stored)).1
