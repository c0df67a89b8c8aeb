-- `marking::calls::check_mark` meets its contract. Assumes nothing.
use Rattle.std.proofs.Common.{arith}
use Rattle.marking.specs.Marks.{qubits_of}
use Rattle.marking.proofs.calls.check_mark.Goals as goal

pub returns-in-Rotation : goal.returns-in-Rotation
unfolding qubits_of
returns-in-Rotation c = grind arith

pub returns-in-Ccx : goal.returns-in-Ccx
unfolding qubits_of
returns-in-Ccx c = grind arith
