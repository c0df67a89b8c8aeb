-- `pauli::sets::insert` meets its contract. Assumes nothing.
use Rattle.pauli.proofs.PutWord.{inserted}
use Rattle.pauli.proofs.sets.insert.Goals as goal

pub returns : goal.returns
returns c = let a = c.args in inserted a.set.now a.i c.requires
