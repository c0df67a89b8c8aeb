-- `sliced::sliced::all_live` meets its contract: the numbers before j are of live events. Assumes nothing.
use mathlib.Core.Path.{◌≡◌}
use mathlib.Core.Bool.{true}
use Prim.Native.Nat.{ℕ, ◌+◌, ◌<◌}
use lib.ListN.{get_or}
use Rattle.lists.specs.Lists.{is_live}
use Rattle.sliced.proofs.sliced.all_live.Given as goal

abbrev pub invariant-loop-j : goal.invariant-loop-j
invariant-loop-j l = (i : ℕ) → i < l.j → is_live l.h l.live.at (get_or l.h (l.at + i) 0) ≡ true
