use Rattle.session.proofs.Telling.{goes_on, goes_wrong}
use Rattle.session.proofs.desk.begin.Goals as goal

pub returns-in-Some : goal.returns-in-Some
returns-in-Some c = goes_on _ _ _ _ _ _ _ _ c.take_line.ensures _ _ _ _ c.in-Some.is c.settle.ensures

pub returns-in-None : goal.returns-in-None
returns-in-None c = goes_wrong _ _ _ _ _ _ _ _ c.take_line.ensures _ _ c.in-None.is c.requires.3 c.write_bad.ensures
