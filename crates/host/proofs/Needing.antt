-- The words that an opening needs, from its number. Assumes nothing.
use mathlib.Core.Path.{◌≡◌, refl, sym, ap, ◌∙◌}
use mathlib.Core.Bool.{Bool, true, false, cond, true≢false}
use Prim.Native.Nat.{ℕ, ◌+◌, ◌-◌, ◌*◌, ◌^◌, ◌≤◌, ◌<◌}
use native.Mathlib.Omega.{arith}
use lib.ListN.{replicate, length-replicate}
use lib.Dec.{eqb}
use borrow.Author.Tests.{eq-eqb, ne_eqb}
use Rattle.model.specs.Events.{Form, words}
use Rattle.model.specs.Store.{need}
use Rattle.model.specs.Calls.{open_number, open_answer, opening}
use Rattle.history.specs.Words.{history_room}
use Rattle.store.specs.Stores.{history_place}
use Rattle.store.proofs.SizeLaws.{need_is, accepted}
use Rattle.store.proofs.OpenLaws.{many_qubits}
use Rattle.std.proofs.Common.{Result, Ok, Err}
use Rattle.std.specs.Result.{is_err}
use Rattle.store.specs.declared.refusals.OpenError.{OpenError}
use Rattle.store.specs.declared.refusals.OpenError.TheVariants.{Sizes, Events, TooShort}
use Rattle.store.specs.Refusals.{open_number_of}
use Rattle.host.specs.Host.{needed}

module _ (n E : ℕ) (f : Form) where
  none_at : (b : Bool) → b ≡ false → 0 ≡ cond b (need n E f) 0
  none_at b e = sym (ap (λ x. cond x (need n E f) 0) e)

  pub refused_need : (k : ℕ) → k ≡ open_number n E 0 f (4 * n) (2 ^ 64 - 1) → (k ≡ 0 → ⊥) → 0 ≡ needed n E f
  unfolding needed
  refused_need k e h = none_at (eqb (open_number n E 0 f (4 * n) (2 ^ 64 - 1)) 0) (ne_eqb (open_number n E 0 f (4 * n) (2 ^ 64 - 1)) 0 (λ z. h (e ∙ z)))

  pub too_many : 23168 < n → 0 ≡ needed n E f
  too_many h = refused_need 1 (many_qubits n E 0 f (4 * n) (2 ^ 64 - 1) h) (λ z. omega (arith, z))

  module _ (k : ℕ) (e : k ≡ open_number n E 0 f (4 * n) (2 ^ 64 - 1)) (z : k ≡ 0) where
    pub few_events : E ≤ 2 ^ 24
    unfolding open_answer opening
    few_events = (accepted (opening n E 0 f (replicate (4 * n) 0) (2 ^ 64 - 1)) (ap (λ w. open_number n E 0 f w (2 ^ 64 - 1)) (length-replicate (4 * n) 0) ∙ (sym e ∙ z))).few_events

    pub need_of : (r : ℕ) → r ≡ history_room f n E (words n) → history_place n (words n) + r ≡ needed n E f
    unfolding needed
    need_of r h = (ap (λ x. history_place n (words n) + x) h ∙ sym (need_is f n E)) ∙ sym (ap (λ x. cond x (need n E f) 0) (eq-eqb (open_number n E 0 f (4 * n) (2 ^ 64 - 1)) 0 (sym e ∙ z)))

-- whether an opening was refused, and its number
pub number_some : (r : Result Unit OpenError) → is_err r ≡ true → open_number_of r ≡ 0 → ⊥
number_some (Ok v) e z = absurd (true≢false (sym e))
number_some (Err Sizes) e z = omega arith
number_some (Err Events) e z = omega arith
number_some (Err TooShort) e z = omega arith

pub number_none : (r : Result Unit OpenError) → is_err r ≡ false → open_number_of r ≡ 0
number_none (Ok v) e = refl
number_none (Err k) e = absurd (true≢false e)
