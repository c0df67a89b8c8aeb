use Rattle.session.proofs.Telling.{answers_bad}
use Rattle.session.proofs.desk.answer.Goals as goal

pub returns-in-None : goal.returns-in-None
returns-in-None c = answers_bad _ _ _ _ _ _ _ _ _ c.read_line.ensures.is c.in-None.is c.requires.3 c.write_bad.ensures
