-- `marking::calls::records` meets its contract. Assumes nothing.
use Rattle.std.proofs.Common.{arith}
use Rattle.marking.specs.Marks.{records_of}
use Rattle.marking.proofs.calls.records.Goals as goal

pub returns-in-Rotation : goal.returns-in-Rotation
unfolding records_of
returns-in-Rotation c = grind arith

pub returns-in-Reset : goal.returns-in-Reset
unfolding records_of
returns-in-Reset c = grind arith

pub returns-in-Ccx : goal.returns-in-Ccx
unfolding records_of
returns-in-Ccx c = grind arith
