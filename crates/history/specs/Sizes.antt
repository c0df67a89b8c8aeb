-- The sizes that the history is handed, and the lists of its form. Assumes nothing.
use Rattle.std.specs.Prelude.{◌≡◌, true, List, ℕ, ◌+◌, ◌*◌, ◌^◌, ◌≤◌, ◌<◌, length}
use Rattle.model.specs.Events as model
use Rattle.model.specs.Events.{Event, State, event_at, live_at, kill}
use Rattle.model.specs.Store.{list_count}
use Rattle.model.specs.Demands.{Listed}
use Rattle.pauli.specs.Rows.{of_row, signature}
use Rattle.lists.specs.Lists.{Only}
use Rattle.support.specs.declared.families.ScalarLists.{ScalarLists}
use Rattle.support.specs.declared.families.SlicedLists.{SlicedLists}
use Rattle.lists.specs.Scans as scans
use Rattle.lists.specs.Scans.{Axed}
use Rattle.history.specs.declared.layout.Layout.{Layout}
use Rattle.history.specs.declared.forms.Form.{Form}
use Rattle.history.specs.declared.forms.Form.TheVariants.{Scalar, Sliced}
use Rattle.history.specs.Words.{alive_place, axis_place, sig_place, count_place, history_room, Alive, Given, ListsIn, OfLists, Holds, Becomes}

-- the code's forms are `model`'s
unfoldable pub form_of : Form → model.Form
form_of Scalar = model.scalar
form_of Sliced = model.sliced

-- "The sliced form takes n up to 32."
abbrev pub Narrow : model.Form → (n l : ℕ) → Type 0
Narrow model.scalar n l = Unit {0}
Narrow model.sliced n l = (n ≤ 32) × (l ≡ 1)

-- sizes that an opening accepts, and a slice of the words that they need
pub record Sized (f : model.Form) (n cap l : ℕ) (h : List ℕ) : Type 0 where
  pub some : 1 ≤ cap
  pub few : cap ≤ 2 ^ 24
  pub planes : l ≤ 362
  pub narrow : Narrow f n l
  pub long : length h ≡ history_room f n cap l

-- the words hold the lists of m
pub record ListsHeld (f : model.Form) (n cap l : ℕ) (m : State) (h : List ℕ) : Type 0 where
  pub given : Given f n cap l m
  pub many : length m.lists ≡ list_count f n
  pub listed : Listed m
  pub lists : ListsIn f m n cap l h

-- from the words h to g the lists become those of m: no word is written that they do not rely on
pub record ListsTo (f : model.Form) (n cap l : ℕ) (m : State) (h g : List ℕ) : Type 0 where
  pub lists : ListsIn f m n cap l g
  pub only : Only (OfLists f n cap l m) h g

-- where the lists of a form stand in the history's words
abbrev pub scalar_lists_of : (cap l : ℕ) → ScalarLists
scalar_lists_of cap l = record {
  at = count_place cap l;
  base = count_place cap l + 2 * 64;
  cap = cap;
  sigs = sig_place cap;
  axes = axis_place cap;
  l = l;
  alive = alive_place cap l;
}

abbrev pub sliced_lists_of : (n cap l : ℕ) → SlicedLists
sliced_lists_of n cap l = record {
  at = count_place cap l;
  base = count_place cap l + 2 * n;
  cap = cap;
  n = n;
  axes = axis_place cap;
  alive = alive_place cap l;
}

-- e is a live event with the axis `axis`, of n qubits, and the signature sig
pub record Newcomer (n l : ℕ) (axis : List ℕ) (sig : ℕ) (e : Event) : Type 0 where
  pub live : e.live ≡ true
  pub x : (of_row 0 axis).x ≡ e.x
  pub z : (of_row 0 axis).z ≡ e.z
  pub sig_is : sig ≡ signature l e.x e.z
  pub small_x : e.x < 2 ^ n
  pub small_z : e.z < 2 ^ n

-- event id of m, with the signature sig, is live in m, but no longer in the set of live events in the words
pub record Leaving (n cap l : ℕ) (m : State) (id sig : ℕ) (h : List ℕ) : Type 0 where
  pub there : id < length m.events
  pub live : live_at m.events id ≡ true
  pub sig_is : sig ≡ signature l (event_at m.events id).x (event_at m.events id).z
  pub alive : Alive (alive_place cap l) (kill id m).events h
  pub axed : Axed l m.events h (axis_place cap)
  pub small_x : (i : ℕ) → i < length m.events → (event_at m.events i).x < 2 ^ n
  pub small_z : (i : ℕ) → i < length m.events → (event_at m.events i).z < 2 ^ n

-- what a scan reads of the events of m
pub record Scanned (cap l : ℕ) (m : State) (events : ℕ) (h : List ℕ) : Type 0 where
  pub count : length m.events ≡ events
  pub room : length m.events ≤ cap
  pub signed : scans.Signed l m.events h (sig_place cap)
  pub axed : Axed l m.events h (axis_place cap)

-- ---- the same of a layout

abbrev pub Fits : Layout → List ℕ → Type 0
Fits z h = Sized (form_of z.form) z.n z.cap z.l h

abbrev pub Held : Layout → State → List ℕ → Type 0
Held z m h = Holds (form_of z.form) z.n z.cap z.l m h

abbrev pub HeldTo : Layout → State → List ℕ → List ℕ → Type 0
HeldTo z m h g = Becomes (form_of z.form) z.n z.cap z.l m h g

abbrev pub HoldsLists : Layout → State → List ℕ → Type 0
HoldsLists z m h = ListsHeld (form_of z.form) z.n z.cap z.l m h

abbrev pub ListsBecome : Layout → State → List ℕ → List ℕ → Type 0
ListsBecome z m h g = ListsTo (form_of z.form) z.n z.cap z.l m h g
