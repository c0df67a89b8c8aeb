use Rattle.session.proofs.Telling.{refused_opening, done_opening}
use mathlib.Core.Path.{ap, ◌∙◌, sym}
use Rattle.model.specs.Calls.{refused}
use Rattle.store.specs.Promises.{told_open}
use Rattle.session.proofs.desk.try_open.Goals as goal

pub returns-in-Err : goal.returns-in-Err
returns-in-Err c = refused_opening _ _ _ _ _ _ _ _ _ c.requires.3 c.«open».ensures _ _ _ (ap told_open c.in-Err.is ∙ ap refused (sym c.code.ensures)) c.requires.4 c.write_not_opened.ensures

pub returns-in-Ok : goal.returns-in-Ok
returns-in-Ok c = done_opening _ _ _ _ _ _ _ _ _ c.requires.3 c.«open».ensures (ap told_open c.in-Ok.is) c.requires.1
