use Rattle.text.proofs.Own.{seen_own}
use Rattle.session.proofs.Telling.{look_Does}
use Rattle.session.proofs.desk.do_look.Goals as goal

pub returns : goal.returns
returns c = look_Does _ _ _ _ _ _ _ _ _ _ c.requires.0 c.requires.1 c.look-s.ensures (rw (seen_own c.look-s.result) at c.write_sight-n.ensures)
