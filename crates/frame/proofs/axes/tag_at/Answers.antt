-- `frame::axes::tag_at` meets its contract. Assumes nothing.
use Rattle.frame.proofs.AxisLaws.{read_label}
use Rattle.frame.proofs.axes.tag_at.Goals as goal

pub returns : goal.returns
returns c = read_label c.args.s.now c.args.at
