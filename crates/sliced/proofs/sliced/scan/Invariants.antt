-- `sliced::sliced::scan` meets its contract: what is answered so far and the rest of the walk are the whole of it, block by block. Assumes nothing.
use Prim.Native.Nat.{◌-◌, ◌/◌, ◌≤◌}
use Rattle.lists.specs.declared.budget.Scan.TheVariants.{Clear}
use Rattle.sliced.proofs.BlockWalk.{FirstIs, Remains}
use Rattle.sliced.proofs.sliced.scan.Given as goal

abbrev pub invariant-loop-b : goal.invariant-loop-b
invariant-loop-b l =
    (l.start / 64 ≤ l.b) × FirstIs l.first l.start l.b × (l.b ≤ l.used) × Remains l.h l.room.base l.room.cap l.room.n l.len l.after l.ax l.az l.initial.left.0 l.b (Clear l.left)

abbrev pub decreases-loop-b : goal.decreases-loop-b
decreases-loop-b l = l.used - l.b
