-- `searches::filled` meets its contract: the slice keeps its length, and no more are kept than recorded. Assumes nothing.
use mathlib.Core.Path.{◌≡◌}
use Prim.Native.Nat.{◌≤◌}
use lib.ListN.{length}
use Rattle.searches.proofs.filled.Given as goal

abbrev pub invariant-loop-i : goal.invariant-loop-i
invariant-loop-i l = (length l.h ≡ length l.initial.h) × (l.kept ≤ l.i)
