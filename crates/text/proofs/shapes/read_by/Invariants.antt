-- `shapes::read_by` meets its contract. Assumes nothing.
use Rattle.std.proofs.Common.{◌≡◌, ◌≤◌, length, drop}
use Rattle.text.specs.Fit.{fitted, zeros}
use Rattle.text.proofs.shapes.read_by.Given as goal

abbrev pub invariant-loop-c : goal.invariant-loop-c
invariant-loop-c l = (l.at ≤ length l.s) × (fitted l.shape zeros l.s ≡ fitted (drop l.c-index l.shape) l.values (drop l.at l.s))
