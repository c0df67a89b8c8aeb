-- `lines::main` is safe and ends, and `run` never finds its slices unfit: each turn leaves them sized (`Sized`), with room for a block, and far from 2^62
-- lines. The bytes said are inside `out` (`Runs`, `Lasts`). Assumes nothing.
use Rattle.session.specs.Desk.{Sized}
use lib.ListN.{length}
use mathlib.Core.Path.{◌≡◌}
use Prim.Native.Nat.{◌*◌, ◌≤◌}
use Rattle.lines.proofs.main.Given as goal

abbrev pub invariant-loop-turn : goal.invariant-loop-turn
invariant-loop-turn l = Sized l.t l.buf l.labels l.store × (length l.out ≡ 65536) × (l.t.line ≤ l._turn * 512)
