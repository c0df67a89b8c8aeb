use Rattle.text.proofs.Own.{told_own}
use Rattle.session.proofs.Telling.{call_Does}
use Rattle.session.proofs.desk.do_call.Goals as goal

pub returns : goal.returns
returns c = call_Does _ _ _ _ _ _ _ _ _ _ _ c.requires.0 c.requires.1 c.apply-a.ensures c.count-stage.ensures (rw (told_own c.apply-a.result) at c.write_answer-n.ensures)
