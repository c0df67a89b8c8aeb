-- `sliced::sliced::rebuild` meets its contract: the live ones of the first i entries stand as a list of k. Assumes nothing.
use mathlib.Core.Path.{◌≡◌}
use Prim.Native.Nat.{◌≤◌}
use lib.ListN.{length}
use Rattle.sliced.proofs.RebuildLaws.{Built}
use Rattle.sliced.proofs.sliced.rebuild.Given as goal

abbrev pub invariant-loop-i : goal.invariant-loop-i
invariant-loop-i l =
    (l.k ≤ l.i) × (length l.h ≡ length l.initial.h) × Built l.initial.h l.room.base l.room.cap l.room.n l.len l.live.at l.axes l.live.events l.i l.k l.h
