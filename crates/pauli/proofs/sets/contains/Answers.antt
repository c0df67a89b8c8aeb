-- `pauli::sets::contains` meets its contract. Assumes nothing.
use mathlib.Core.Path.{ap}
use Prim.Native.Nat.{ℕ, ◌/◌, ◌%◌}
use lib.Dec.{eqb}
use lib.ListN.{get_or}
use Rattle.pauli.proofs.PutWord.{bit_read}
use Rattle.pauli.proofs.sets.contains.Goals as goal

pub returns : goal.returns
returns c = let a = c.args in ap (λ (x : ℕ). eqb x 1) (bit_read (get_or a.set.now (a.i / 64) 0) (a.i % 64))
