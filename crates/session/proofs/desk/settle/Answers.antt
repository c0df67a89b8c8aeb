use Rattle.session.proofs.Telling.{more_labels, all_labels}
use Rattle.session.proofs.desk.settle.Goals as goal

pub returns-then-q-n : goal.returns-then-q-n
returns-then-q-n c = more_labels _ _ _ _ _ _ _ _ _ c.in-Labels.is c.if-q-n.true c.requires.0

pub returns-else-q-n : goal.returns-else-q-n
returns-else-q-n c = all_labels _ _ _ _ _ _ _ _ _ _ _ _ c.in-Labels.is c.if-q-n.false c.requires.0 c.try_open.ensures
