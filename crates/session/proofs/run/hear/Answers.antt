use Rattle.session.proofs.Hearing.{line_on, line_stop, byte_more, byte_long}
use Rattle.session.proofs.run.hear.Goals as goal

pub returns-in-On : goal.returns-in-On
returns-in-On c = line_on _ _ _ _ _ _ c.requires.0 c.requires.1 c.if-b-eq10.true _ _ _ c.answer.auto.labels c.answer.auto.store _ _ c.in-On.ensures

pub returns-in-Stop : goal.returns-in-Stop
returns-in-Stop c = line_stop _ _ _ _ _ _ c.requires.0 c.requires.1 c.if-b-eq10.true _ _ _ c.answer.auto.labels c.answer.auto.store _ c.in-Stop.ensures

pub returns-then-held-ge-LINE_BYTES : goal.returns-then-held-ge-LINE_BYTES
returns-then-held-ge-LINE_BYTES c = byte_long _ _ _ _ _ _ c.requires.0 c.requires.1 c.if-b-eq10.false c.if-held-ge-LINE_BYTES.true _ _ c.write_bad.ensures

pub returns : goal.returns
returns c = byte_more _ _ _ _ _ _ c.requires.0 c.requires.1 c.if-b-eq10.false c.if-held-ge-LINE_BYTES.false
