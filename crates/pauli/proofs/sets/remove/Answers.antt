-- `pauli::sets::remove` meets its contract. Assumes nothing.
use Rattle.pauli.proofs.PutWord.{removed}
use Rattle.pauli.proofs.sets.remove.Goals as goal

pub returns : goal.returns
returns c = let a = c.args in removed a.set.now a.i c.requires
