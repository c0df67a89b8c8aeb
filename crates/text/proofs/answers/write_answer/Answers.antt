-- `answers::write_answer` meets its contract, by the cases of the answer. Assumes nothing.
use Rattle.text.specs.Spoken.{spoken}
use Rattle.text.proofs.answers.write_answer.Goals as goal

pub returns-in-Ok-None : goal.returns-in-Ok-None
unfolding spoken
returns-in-Ok-None g c = let e = rw c.in-Ok-None.is at c.in-Ok-None.field-0-is in rw (c.in-Ok-None.is, e) c.write_by.ensures

pub returns-in-Ok-Some : goal.returns-in-Ok-Some
unfolding spoken
returns-in-Ok-Some g c = let e = rw c.in-Ok-Some.is at c.in-Ok-Some.field-0-is in rw (c.in-Ok-Some.is, e) c.write_by-in-Ok-Some.ensures

pub returns-in-Err : goal.returns-in-Err
returns-in-Err g c = rw (c.in-Err.is, ← c.number.ensures) c.write_refusal.ensures
