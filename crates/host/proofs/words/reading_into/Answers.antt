-- `host::words::reading_into` meets its contract: what was read, or why the read was refused. Assumes nothing.
use mathlib.Core.Path.{refl}
use native.Mathlib.Omega.{arith}
use Rattle.host.specs.Host.{words_of}
use Rattle.store.specs.Promises.{number, told_read}
use Rattle.host.proofs.Answering.{read-words}
use Rattle.host.proofs.words.reading_into.Goals as goal

pub returns-in-Ok-clause-value : goal.returns-in-Ok-clause-value
unfolding number told_read
returns-in-Ok-clause-value c = rw c.in-Ok.is refl

pub returns-in-Ok-clause-says_after : goal.returns-in-Ok-clause-says_after
returns-in-Ok-clause-says_after c = read-words c.args.a c.args.says.now c.in-Ok.rotation _ _ c.requires c.in-Ok.is (record { sfits = omega arith }) c.sign_word.ensures c.bit_word.ensures

pub returns-in-Err-clause-value : goal.returns-in-Err-clause-value
unfolding number told_read
returns-in-Err-clause-value c = rw c.in-Err.is c.code.ensures

pub returns-in-Err-clause-says_after : goal.returns-in-Err-clause-says_after
unfolding told_read words_of
returns-in-Err-clause-says_after c = rw c.in-Err.is refl
