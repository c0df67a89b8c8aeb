-- `host::words::sight_into` meets its contract: what was seen, or why the look was refused. Assumes nothing.
use mathlib.Core.Path.{refl}
use Rattle.host.specs.Host.{words_of}
use Rattle.store.specs.Promises.{number, told_look}
use Rattle.host.proofs.words.sight_into.Goals as goal

pub returns-in-Ok-clause-value : goal.returns-in-Ok-clause-value
unfolding number told_look
returns-in-Ok-clause-value c = rw c.in-Ok.is c.seen_into.ensures.value

pub returns-in-Ok-clause-says_after : goal.returns-in-Ok-clause-says_after
unfolding told_look
returns-in-Ok-clause-says_after c = rw c.in-Ok.is c.seen_into.ensures.says_after

pub returns-in-Err-clause-value : goal.returns-in-Err-clause-value
unfolding number told_look
returns-in-Err-clause-value c = rw c.in-Err.is c.code.ensures

pub returns-in-Err-clause-says_after : goal.returns-in-Err-clause-says_after
unfolding told_look words_of
returns-in-Err-clause-says_after c = rw c.in-Err.is refl
