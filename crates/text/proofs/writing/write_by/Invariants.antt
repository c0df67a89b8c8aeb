-- `writing::write_by` meets its contract: what is written, and then the rest of the shape with the values that are left, are the whole text. Assumes nothing.
use Rattle.std.proofs.Common.{ℕ, ◌≡◌, ◌≤◌, List, ◌++◌, length, drop}
use Rattle.text.specs.Shape.{print}
use Rattle.text.specs.Wrote.{Wrote}
use Rattle.text.proofs.writing.write_by.Given as goal

abbrev pub invariant-loop-c : goal.invariant-loop-c
invariant-loop-c l =
    (l.at ≤ length l.out) × ((pre : List ℕ) × Wrote l.initial.out 0 pre l.out l.at × (pre ++ print (drop l.c-index l.shape) l.left.rest.now ≡ print l.shape l.values))
