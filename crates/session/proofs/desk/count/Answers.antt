use mathlib.Core.Path.{ap, ◌∙◌}
use Rattle.std.proofs.Common.{Ok}
use Rattle.session.proofs.Telling.{count_first, count_Done, count_refused}
use Rattle.session.proofs.desk.count.Goals as goal

pub returns-in-Ok-Some : goal.returns-in-Ok-Some
returns-in-Ok-Some c = count_first _ _ _ _ _ _ (c.in-Ok-Some.is ∙ ap Ok (rw c.in-Ok-Some.is at c.in-Ok-Some.field-0-is)) c.records-k.ensures

pub returns-in-Ok-None : goal.returns-in-Ok-None
returns-in-Ok-None c = count_Done _ _ _ _ _ _ (c.in-Ok-None.is ∙ ap Ok (rw c.in-Ok-None.is at c.in-Ok-None.field-0-is)) c.kills.ensures c.saturating_sub.ensures

pub returns-in-Err : goal.returns-in-Err
returns-in-Err c = count_refused _ _ _ _ _ c.in-Err.is
