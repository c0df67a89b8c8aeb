-- `replay::main` is safe and ends, and every block finds its job open. Assumes nothing.
use lib.ListN.{length}
use mathlib.Core.Path.{◌≡◌}
use Prim.Native.Nat.{◌+◌, ◌*◌, ◌≤◌}
use Rattle.replay.specs.Jobs.{lines_of, Going}
use Rattle.replay.proofs.main.Given as goal

abbrev pub invariant-loop-turn : goal.invariant-loop-turn
invariant-loop-turn l = Going l.p.job × (lines_of l.p.job ≤ l._turn * 512) × (l.p.number ≤ 1 + l._turn * 1024)
