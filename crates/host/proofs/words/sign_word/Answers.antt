-- `host::words::sign_word` meets its contract: by the sign. Assumes nothing.
use Rattle.host.proofs.Written.{plus, minus}
use Rattle.host.proofs.words.sign_word.Goals as goal

pub returns-then-sign-lt0 : goal.returns-then-sign-lt0
returns-then-sign-lt0 c = minus c.args.sign c.ranges.sign c.if-sign-lt0.true

pub returns-else-sign-lt0 : goal.returns-else-sign-lt0
returns-else-sign-lt0 c = plus c.args.sign c.ranges.sign c.if-sign-lt0.false
