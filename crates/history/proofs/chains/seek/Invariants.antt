-- `history::chains::seek` meets its contract: the walk stands at a cell of the chain, above the event. Assumes nothing.
use mathlib.Core.Path.{◌≡◌}
use mathlib.Core.Bool.{Bool, true}
use Prim.Native.Nat.{ℕ, ◌+◌, ◌*◌, ◌≤◌, ◌<◌}
use lib.ListN.{get_or}
use Rattle.history.specs.Newest.{Chained}
use Rattle.history.proofs.ChainLaws.{Walking}
use Rattle.history.proofs.chains.seek.Given as goal

abbrev pub invariant-loop-v : goal.invariant-loop-v
invariant-loop-v l =
    (l.c < 2 + 2 * l.cap) × (l.last ≤ l.cap + 1) × (l.v ≡ get_or l.h l.c 0)
    × ((p : ℕ → Bool) (n : ℕ) → n ≤ l.cap → Chained p n l.cap l.k l.h → l.id < n → p l.id ≡ true → Walking p n l.cap l.k l.id l.c l.v l.last)

abbrev pub decreases-loop-v : goal.decreases-loop-v
decreases-loop-v l = l.last
