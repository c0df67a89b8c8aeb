-- `lists::places::gallop` meets its contract: the place and the next step together are at most the length. Assumes nothing.
use Prim.Native.Nat.{◌+◌, ◌≤◌, ◌<◌}
use lib.ListN.{length}
use Rattle.lists.proofs.places.gallop.Given as goal

abbrev pub invariant-loop-lo : goal.invariant-loop-lo
invariant-loop-lo l = (l.lo < length l.ids) × (0 < l.span) × (l.lo + l.span ≤ length l.ids)

abbrev pub decreases-loop-lo : goal.decreases-loop-lo
decreases-loop-lo l = l.lo
