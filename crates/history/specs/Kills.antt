-- What a kill writes. Assumes nothing.
use Rattle.std.specs.Prelude.{◌≡◌, ◌⊎◌, true, List, ℕ, ◌+◌, ◌/◌, ◌<◌, length, set}
use Rattle.model.specs.Events.{Event, event_at, live_at, is_rotation, killed}
use Rattle.lists.specs.Lists.{Among, Only}
use Rattle.history.specs.Newest.{link_place}
use Rattle.history.specs.Words.{sig_place, alive_place}
use Rattle.history.specs.Recordings.{EventsHeld}

-- event id is a live rotation
pub record Dying (es : List Event) (id : ℕ) : Type 0 where
  pub there : id < length es
  pub live : live_at es id ≡ true
  pub rotation : is_rotation (event_at es id).body ≡ true

-- the words that a death takes, the lists aside: a head or the link of a live rotation, the event's signature, and a word of the live set
abbrev pub LeftBy : (cap l : ℕ) → List Event → (id k : ℕ) → Type 0
LeftBy cap l es id k =
    Among 2 cap k
    ⊎ (((j : ℕ) × (j < length es) × (live_at es j ≡ true) × (is_rotation (event_at es j).body ≡ true) × (j ≡ id → ⊥) × (k ≡ link_place cap j))
    ⊎ ((k ≡ sig_place cap + id) ⊎ (k ≡ alive_place cap l + id / 64)))

-- from h to g the event id of es is dead
pub record Gone (cap l : ℕ) (es : List Event) (id : ℕ) (h g : List ℕ) : Type 0 where
  pub held : EventsHeld cap l (set es id (killed (event_at es id))) g
  pub only : Only (LeftBy cap l es id) h g
