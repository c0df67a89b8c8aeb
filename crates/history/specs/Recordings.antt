-- What recording an event writes. Assumes nothing.
use Rattle.std.specs.Prelude.{◌≡◌, ◌⊎◌, true, List, [], ◌∷◌, ◌++◌, ℕ, ◌+◌, ◌*◌, ◌/◌, ◌%◌, ◌^◌, ◌<◌, length, get_or}
use Rattle.model.specs.Events.{Event}
use Rattle.model.specs.Demands.{IsSign}
use Rattle.pauli.specs.Rows.{of_row, signature}
use Rattle.lists.specs.Lists.{Among, Only}
use Rattle.lists.specs.Scans as scans
use Rattle.lists.specs.Scans.{Axed}
use Rattle.history.specs.declared.events.Body.{Body}
use Rattle.history.specs.declared.events.Body.TheVariants.{Rotation, Blocker}
use Rattle.history.specs.Newest.{bucket_of, head_place, link_place}
use Rattle.history.specs.Words.{label_place, tag_place, sig_place, axis_place, alive_place, Bodies, Alive, Chains, OfEvent}
use Rattle.history.specs.Readings.{body_of}

-- ---- words

-- event id's axis, signature, tag word and live bit; the live bits above it are 0
pub record Noted (h : List ℕ) (l cap id : ℕ) (axis : List ℕ) (sig word : ℕ) (g : List ℕ) : Type 0 where
  pub axis_words_is : (i : ℕ) → i < 2 * l → get_or g (axis_place cap + id * (2 * l) + i) 0 ≡ get_or axis i 0
  pub sig_word : get_or g (sig_place cap + id) 0 ≡ sig
  pub tag_word : get_or g (tag_place cap id) 0 ≡ word
  pub live_word : get_or g (alive_place cap l + id / 64) 0 ≡ get_or h (alive_place cap l + id / 64) 0 % 2 ^ (id % 64) + 2 ^ (id % 64)
  pub other : (k : ℕ) → (Among (axis_place cap + id * (2 * l)) (2 * l) k → ⊥) → (k ≡ sig_place cap + id → ⊥) → (k ≡ tag_place cap id → ⊥) → (k ≡ alive_place cap l + id / 64 → ⊥)
      → get_or g k 0 ≡ get_or h k 0
  pub long : length g ≡ length h

-- event id's label, and the event at the head of its bucket
pub record Labelled (h : List ℕ) (cap id high low : ℕ) (g : List ℕ) : Type 0 where
  pub high_word : get_or g (label_place cap id) 0 ≡ high
  pub low_word : get_or g (label_place cap id + 1) 0 ≡ low
  pub head : get_or g (head_place (bucket_of cap low)) 0 ≡ id + 1
  pub link : get_or g (link_place cap id) 0 ≡ get_or h (head_place (bucket_of cap low)) 0
  pub other : (k : ℕ) → (Among (label_place cap id) 2 k → ⊥) → (k ≡ head_place (bucket_of cap low) → ⊥) → (k ≡ link_place cap id → ⊥) → get_or g k 0 ≡ get_or h k 0
  pub long : length g ≡ length h

-- ---- events

-- the words hold the events es, their lists aside
pub record EventsHeld (cap l : ℕ) (es : List Event) (h : List ℕ) : Type 0 where
  pub chains : Chains cap es h
  pub bodies : Bodies cap es h
  pub signed : scans.Signed l es h (sig_place cap)
  pub axed : Axed l es h (axis_place cap)
  pub alive : Alive (alive_place cap l) es h

abbrev pub SignedBody : Body → Type 0
SignedBody (Rotation tag sgn high low) = IsSign sgn
SignedBody Blocker = Unit {0}

-- e is the live event of a body and an axis of n qubits
pub record Recorded (n : ℕ) (axis : List ℕ) (body : Body) (e : Event) : Type 0 where
  pub live : e.live ≡ true
  pub is : e.body ≡ body_of body
  pub x : (of_row 0 axis).x ≡ e.x
  pub z : (of_row 0 axis).z ≡ e.z
  pub small_x : e.x < 2 ^ n
  pub small_z : e.z < 2 ^ n

-- the same, of any number of qubits, with its signature
pub record Fresh (l : ℕ) (axis : List ℕ) (sig : ℕ) (body : Body) (e : Event) : Type 0 where
  pub live : e.live ≡ true
  pub is : e.body ≡ body_of body
  pub x : (of_row 0 axis).x ≡ e.x
  pub z : (of_row 0 axis).z ≡ e.z
  pub sig_is : sig ≡ signature l e.x e.z

-- the words that a new event e takes: its own, a head and a word of the set of live events
abbrev pub TakenBy : Event → (cap l id k : ℕ) → Type 0
TakenBy e cap l id k = Among 2 cap k ⊎ (OfEvent e cap l id k ⊎ (k ≡ alive_place cap l + id / 64))

-- from h to g the events es become those and e
pub record Stored (cap l : ℕ) (es : List Event) (e : Event) (h g : List ℕ) : Type 0 where
  pub held : EventsHeld cap l (es ++ (e ∷ [])) g
  pub only : Only (TakenBy e cap l (length es)) h g
