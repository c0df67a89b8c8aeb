-- Laws of spending: what an answer says of the steps. Assumes nothing.
use mathlib.Core.Path.{◌≡◌, refl, sym, subst}
use mathlib.Core.Bool.{Bool, true, false, cond}
use Prim.Native.Nat.{ℕ, ◌-◌, ◌≤◌, ◌<◌}
use lib.Dec.{ltb}
use borrow.Author.Tests.{ltb-true, ltb-false}
use Rattle.lists.specs.Scans.{steps, spend_of}
use Rattle.lists.specs.declared.budget.Budget.{Budget}
use Rattle.std.proofs.Common.{Option, Some, None}

abbrev Told : Budget → (cost : ℕ) → Option Budget → Type 0
Told b cost (Some r) = (cost ≤ b.0) × (r.0 ≡ b.0 - cost)
Told b cost None = b.0 < cost

pub spend_Told : (b : Budget) (cost : ℕ) (r : Option Budget) → r ≡ spend_of b cost → Told b cost r
unfolding spend_of steps
spend_Told b cost r e = subst (Told b cost) (sym e) (go (ltb b.0 cost) refl)
  where
    go : (t : Bool) → ltb b.0 cost ≡ t → Told b cost (cond t None (Some (record { 0 = b.0 - cost })))
    go true q = ltb-true _ _ q
    go false q = (ltb-false _ _ q, refl)
