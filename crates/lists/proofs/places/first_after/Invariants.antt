-- `lists::places::first_after` meets its contract: the two ends bracket the place of the first number past `after`. Assumes nothing.
use Prim.Native.Nat.{◌+◌}
use Rattle.lists.proofs.PlaceLaws.{Between}
use Rattle.lists.proofs.places.first_after.Given as goal

abbrev pub invariant-loop-len : goal.invariant-loop-len
invariant-loop-len l = Between l.ids l.after l.lo (l.lo + l.len)

abbrev pub decreases-loop-len : goal.decreases-loop-len
decreases-loop-len l = l.len
