-- `replay::block` meets its contract. Each turn is at most one more job, and at most one more line for each of its bytes. Assumes nothing.
use lib.ListN.{length}
use mathlib.Core.Path.{◌≡◌}
use Prim.Native.Nat.{◌+◌, ◌-◌, ◌≤◌}
use Rattle.replay.specs.Jobs.{lines_of, Leads}
use Rattle.replay.proofs.block.Given as goal

abbrev pub invariant-loop-i : goal.invariant-loop-i
invariant-loop-i g l = (l.p.number ≤ l.initial.p.number + l.i) × (l.i ≤ length l.bytes + 1) × Leads l.initial.p.job l.bytes l.p.job × (lines_of l.p.job ≤ lines_of l.initial.p.job + l.i)

abbrev pub decreases-loop-i : goal.decreases-loop-i
decreases-loop-i g l = length l.bytes + 1 - l.i
