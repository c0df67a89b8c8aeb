-- `lists::scalar::push` meets its contract. Assumes nothing.
use mathlib.Core.Path.{refl}
use Rattle.lists.proofs.ScalarLaws.{pushed_to}
use Rattle.lists.proofs.scalar.push.Goals as goal

pub returns-clause-done : goal.returns-clause-done
returns-clause-done c = λ ids d m l. (refl, pushed_to c.args.h.now c.args.at c.args.base c.args.cap c.args.id ids d c.requires m l)
