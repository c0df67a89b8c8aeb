-- `marking::events::block_products` meets its contract: the products before `i` are recorded. Assumes nothing.
use mathlib.Core.Path.{◌≡◌}
use Prim.Native.Nat.{◌+◌, ◌*◌}
use lib.ListN.{length}
use Rattle.store.specs.Checks.{Fit}
use Rattle.marking.specs.Marks.{products}
use Rattle.marking.proofs.PutMarks.{Sofar}
use Rattle.marking.proofs.events.block_products.Given as goal

abbrev pub invariant-loop-i : goal.invariant-loop-i
invariant-loop-i l = Fit l.z l.s × (length l.out ≡ 2 * l.z.l + 1) × (length l.s ≡ length l.initial.s) × Sofar (products l.basis l.a l.b l.t) l.i l.initial.s l.s
