-- `host::words::seen_into` meets its contract, by the cases of what a look found. Assumes nothing.
use native.Mathlib.Omega.{arith}
use Rattle.host.specs.Host.{words_of, look_words}
use Rattle.store.specs.Promises.{seen_of}
use Rattle.host.proofs.Answering.{Partner-words}
use Rattle.host.proofs.words.seen_into.Goals as goal

pub returns-in-Partner-clause-says_after : goal.returns-in-Partner-clause-says_after
returns-in-Partner-clause-says_after c = Partner-words _ c.args.says.now c.in-Partner.id c.in-Partner.sign _ _ _ c.in-Partner.is (record { sfits = omega arith }) c.sign_word.ensures c.write.ensures.says_after

pub returns-in-Nothing-clause-says_after : goal.returns-in-Nothing-clause-says_after
unfolding words_of look_words seen_of
returns-in-Nothing-clause-says_after c = rw c.in-Nothing.is c.write-in-Nothing.ensures.says_after

pub returns-in-Blocked-clause-says_after : goal.returns-in-Blocked-clause-says_after
unfolding words_of look_words seen_of
returns-in-Blocked-clause-says_after c = rw c.in-Blocked.is c.write-in-Blocked.ensures.says_after

pub returns-in-OutOfSteps-clause-says_after : goal.returns-in-OutOfSteps-clause-says_after
unfolding words_of look_words seen_of
returns-in-OutOfSteps-clause-says_after c = rw c.in-OutOfSteps.is c.write-in-OutOfSteps.ensures.says_after
