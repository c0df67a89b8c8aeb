-- `sliced::masks::anticommuting` meets its contract: its two halves are gathered, and `marks` says what their digits are. Assumes nothing.
use Rattle.sliced.proofs.MaskLaws.{mixed_marks}
use Rattle.sliced.proofs.masks.anticommuting.Goals as goal

pub returns : goal.returns
returns g c =
    let a = c.args in
    λ b l. mixed_marks a.masks.now a.n a.ax a.az g.row.B b c.loop-b.b c.gather-x.result c.gather-words.result c.loop-b.words c.requires.1 c.requires.2 l c.loop-b-test.false
    c.gather-x.ensures.words c.gather-words.ensures.words c.loop-b.invariant
