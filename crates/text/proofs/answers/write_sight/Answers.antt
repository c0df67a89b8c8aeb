-- `answers::write_sight` meets its contract: what was seen, or why the look was refused. Assumes nothing.
use Rattle.text.proofs.answers.write_sight.Goals as goal

pub returns-in-Ok : goal.returns-in-Ok
returns-in-Ok g c = rw c.in-Ok.is c.write_seen.ensures

pub returns-in-Err : goal.returns-in-Err
returns-in-Err g c = rw (c.in-Err.is, ← c.number.ensures) c.write_refusal.ensures
