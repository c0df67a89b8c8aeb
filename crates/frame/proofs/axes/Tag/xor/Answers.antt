-- `frame::axes::Tag::xor` meets its contract. Assumes nothing.
use Rattle.frame.proofs.AxisLaws.{tag-xor}
use Rattle.frame.proofs.axes.Tag.xor.Goals as goal

pub returns : goal.returns
returns c = tag-xor c.args.self c.args.other
