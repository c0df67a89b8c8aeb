-- `answers::write_seen` meets its contract, by the cases of what a look found. Assumes nothing.
use native.Mathlib.Omega.{arith}
use Rattle.store.specs.Promises.{seen_of}
use Rattle.text.proofs.SignLaws.{wrote_found}
use Rattle.text.specs.Spoken.{spoken}
use Rattle.text.proofs.answers.write_seen.Goals as goal

pub returns-in-Partner : goal.returns-in-Partner
returns-in-Partner c = wrote_found _ _ c.in-Partner.id c.in-Partner.sign _ _ _ (record { sfits = omega arith }) _ c.in-Partner.is c.write_found.ensures

pub returns-in-Nothing : goal.returns-in-Nothing
unfolding spoken seen_of
returns-in-Nothing c = rw c.in-Nothing.is c.write_by.ensures

pub returns-in-Blocked : goal.returns-in-Blocked
unfolding spoken seen_of
returns-in-Blocked c = rw c.in-Blocked.is c.write_by-in-Blocked.ensures

pub returns-in-OutOfSteps : goal.returns-in-OutOfSteps
unfolding spoken seen_of
returns-in-OutOfSteps c = rw c.in-OutOfSteps.is c.write_by-in-OutOfSteps.ensures
