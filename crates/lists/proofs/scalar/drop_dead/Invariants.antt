-- `lists::scalar::drop_dead` meets its contract: of the first `i` entries the live ones stand in the first `k` places. Assumes nothing.
use Rattle.lists.proofs.ScalarLaws.{Dropping}
use Rattle.lists.proofs.scalar.drop_dead.Given as goal

abbrev pub invariant-loop-i : goal.invariant-loop-i
invariant-loop-i l = Dropping l.initial.h l.base l.len l.live.at l.live.events l.h l.i l.k
