-- `shapes::take_number` meets its contract. Assumes nothing.
use Rattle.std.proofs.Common.{◌≡◌, ◌<◌, drop}
use Rattle.text.specs.Taken.{number_at, more}
use Rattle.text.proofs.shapes.take_number.Given as goal

abbrev pub invariant-loop-i : goal.invariant-loop-i
invariant-loop-i l = (l.value < 10000000000) × (number_at l.limit (drop l.at l.s) ≡ more l.limit (drop l.i l.s) l.value)
