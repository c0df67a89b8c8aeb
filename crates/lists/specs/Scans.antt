-- The allowance, and what a scan answers. What a scan meets and what it costs is `model`'s `walk` over `list_work`. Assumes nothing.
use Rattle.std.specs.Prelude.{◌≡◌, Bool, true, false, cond, Option, Some, None, Result, Ok, IsErr, List, ℕ, ◌+◌, ◌-◌, ◌*◌, ◌≤◌, ◌<◌, length, get_or, ltb}
use Rattle.model.specs.Events.{Event, State, plane, event_at, live_at, touches}
use Rattle.model.specs.Search.{Walk, done, stopped, dry, list_at}
use Rattle.std.specs.Int.Bits.{bit_and}
use Rattle.model.specs.Pauli.{apart}
use Rattle.pauli.specs.Rows.{value_at, of_row, signature}
use Rattle.lists.specs.Lists.{Numbers, Rises, Known}
use Rattle.lists.specs.declared.budget.Budget.{Budget}
use Rattle.pauli.specs.declared.corrupt.Corrupt.{Corrupt}
use Rattle.lists.specs.declared.budget.Scan.{Scan}
use Rattle.lists.specs.declared.budget.Scan.TheVariants.{Clear, Blocked, Out}

unfoldable pub steps : ℕ → Budget
steps n = record { 0 = n }

-- "Spending exactly what is left succeeds. One more is 'out of steps'."
unfoldable pub spend_of : Budget → (cost : ℕ) → Option Budget
spend_of b cost = cond (ltb b.0 cost) None (Some (steps (b.0 - cost)))

-- how a walk over the work of a scan ends
unfoldable pub scan_of : Walk → Scan
scan_of (done n) = Clear (steps n)
scan_of (stopped id n) = Blocked (steps n)
scan_of (dry n) = Out (steps n)

-- the words from `sigs` on are the signatures of the events, 0 for a dead one
abbrev pub Signed : (l : ℕ) → List Event → List ℕ → (sigs : ℕ) → Type 0
Signed l es h sigs = (i : ℕ) → i < length es → get_or h (sigs + i) 0 ≡ cond (live_at es i) (signature l (event_at es i).x (event_at es i).z) 0

-- the words from `axes` on are the axes of the events: l words of X and l words of Z for each
pub record Axed (l : ℕ) (es : List Event) (h : List ℕ) (axes : ℕ) : Type 0 where
  pub xs : (i : ℕ) → i < length es → value_at h (axes + i * (2 * l)) l ≡ (event_at es i).x
  pub zs : (i : ℕ) → i < length es → value_at h (axes + i * (2 * l) + l) l ≡ (event_at es i).z

-- every live event in list b touches it
abbrev pub Touched : (l b : ℕ) → List Event → List ℕ → Type 0
Touched l b es ids = (i : ℕ) → i < length ids → live_at es (get_or ids i 0) ≡ true
    → touches l (event_at es (get_or ids i 0)).x (event_at es (get_or ids i 0)).z b ≡ true

-- what a scan of list b, of len entries from `base` on, finds of the state in the words
pub record Scannable (s : State) (b l events : ℕ) (h : List ℕ) (base len sigs axes : ℕ) : Type 0 where
  pub count : length s.events ≡ events
  pub planes : plane s ≡ l
  pub long : length (list_at s b) ≡ len
  pub numbers : Numbers h base (list_at s b)
  pub rises : Rises (list_at s b)
  pub known : Known events (list_at s b)
  pub touched : Touched l b s.events (list_at s b)
  pub signed : Signed l s.events h sigs
  pub axed : Axed l s.events h axes

-- 1 where the axis in the words of event id anticommutes with another, else 0
unfoldable pub apart_from : List ℕ → (axes l id : ℕ) → List ℕ → ℕ
apart_from h axes l id axis = apart (value_at h (axes + id * (2 * l)) l) (value_at h (axes + id * (2 * l) + l) l) (of_row 0 axis).x (of_row 0 axis).z

-- what the words say of event id: it is none; or another bit than `this` is the first that it shares with the axis; or whether it anticommutes
pub record Meets (h : List ℕ) (sigs axes l events : ℕ) (axis : List ℕ) (wanted this id : ℕ) (r : Result Bool Corrupt) : Type 0 where
  pub unknown : events ≤ id → IsErr r
  pub apart : id < events → (bit_and (get_or h (sigs + id) 0) wanted ≡ this → ⊥) → r ≡ Ok false
  pub hit : id < events → bit_and (get_or h (sigs + id) 0) wanted ≡ this
      → apart_from h axes l id axis ≡ 1 → r ≡ Ok true
  pub past : id < events → bit_and (get_or h (sigs + id) 0) wanted ≡ this
      → apart_from h axes l id axis ≡ 0 → r ≡ Ok false
