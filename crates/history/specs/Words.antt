-- What stands in the words of the history's part of a store (docs/STORE.md), and that they hold a state of `model`. From its first word on: how
-- many events, how many at the last clear; chains; labels; tags; signatures; axes; the set of live events; the counts of the lists; the
-- lists. E is `cap`. Assumes nothing.
use Rattle.std.specs.Prelude.{◌≡◌, ◌⊎◌, Bool, true, false, cond, ◌&&◌, List, map, ℕ, ◌+◌, ◌*◌, ◌^◌, ◌≤◌, ◌<◌, length, get_or, take, drop, eqb, ℤ, pos, negsuc}
use Rattle.model.specs.Events.{Body, rotation, blocker, Event, Form, scalar, sliced, State, words, plane, event_at, live_at, dead}
use Rattle.model.specs.Search.{list_at}
use Rattle.model.specs.Store.{list_count}
use Rattle.model.specs.Calls.{tag_at}
use Rattle.model.specs.Demands.{Listed, Signed}
use Rattle.lists.specs.Lists.{Among, Only, live_in}
use Rattle.lists.specs.Scalars.{UsedScalar}
use Rattle.sliced.specs.Blocks.{entry_of, sliced_room, UsedSliced}
use Rattle.lists.specs.Scans as scans
use Rattle.lists.specs.Scans.{Axed}
use Rattle.support.specs.Families.{Scalars, Sliceds}
use Rattle.history.specs.Newest.{bucket_of, link_place, Chained}

-- ---- places

abbrev pub label_place : (cap i : ℕ) → ℕ
label_place cap i = 2 + 2 * cap + 2 * i

abbrev pub tag_place : (cap i : ℕ) → ℕ
tag_place cap i = 2 + 4 * cap + i

abbrev pub sig_place : (cap : ℕ) → ℕ
sig_place cap = 2 + 5 * cap

abbrev pub axis_place : (cap : ℕ) → ℕ
axis_place cap = 2 + 6 * cap

abbrev pub alive_place : (cap l : ℕ) → ℕ
alive_place cap l = 2 + 6 * cap + cap * (2 * l)

abbrev pub count_place : (cap l : ℕ) → ℕ
count_place cap l = alive_place cap l + words cap

abbrev pub list_place : Form → (n cap l : ℕ) → ℕ
list_place f n cap l = count_place cap l + 2 * list_count f n

-- the words of one list, as `lists` lays it out (`need_is` of `store` says that all rooms together are `model`'s need)
unfoldable pub list_size : Form → (n cap : ℕ) → ℕ
list_size scalar n cap = cap
list_size sliced n cap = sliced_room cap n

unfoldable pub history_room : Form → (n cap l : ℕ) → ℕ
unfolding list_size
history_room f n cap l = list_place f n cap l + list_count f n * list_size f n cap

-- ---- events

-- a tag, a sign and that it is a rotation, in one word; a blocker's word is 0
unfoldable pub code : ℤ → ℕ
code (pos k) = 1
code (negsuc k) = 3

unfoldable pub body_word : Body → ℕ
unfolding code
body_word (rotation tag sgn label) = 4 * tag + code sgn
body_word blocker = 0

-- the label's words, of a rotation
abbrev pub LabelAt : List ℕ → (a : ℕ) → Body → Type 0
LabelAt h a (rotation tag sgn label) = (get_or h a 0 ≡ label.high) × (get_or h (a + 1) 0 ≡ label.low)
LabelAt h a blocker = Unit {0}

pub record Bodies (cap : ℕ) (es : List Event) (h : List ℕ) : Type 0 where
  pub label : (i : ℕ) → i < length es → LabelAt h (label_place cap i) (event_at es i).body
  pub tag : (i : ℕ) → i < length es → get_or h (tag_place cap i) 0 ≡ body_word (event_at es i).body
  -- "tag (32 bits)"
  pub small : (i : ℕ) → i < length es → tag_at (event_at es i).body < 2 ^ 32

-- the words that are in use of the set of live events
abbrev pub Alive : (alive : ℕ) → List Event → List ℕ → Type 0
Alive alive es h = (e : ℕ) → e < words (length es) * 64 → live_in h alive e ≡ cond (live_at es e) 1 0

-- ---- chains: the live rotations of each bucket

unfoldable pub body_in : (cap k : ℕ) → Body → Bool
body_in cap k (rotation tag sgn label) = eqb (bucket_of cap label.low) k
body_in cap k blocker = false

unfoldable pub in_bucket : (cap k : ℕ) → List Event → ℕ → Bool
in_bucket cap k es i = live_at es i && body_in cap k (event_at es i).body

abbrev pub Chains : (cap : ℕ) → List Event → List ℕ → Type 0
Chains cap es h = (k : ℕ) → k < cap → Chained (in_bucket cap k es) (length es) cap k h

-- ---- lists

-- how many entries of list b are dead
unfoldable pub dead_in : State → ℕ → ℕ
dead_in m b = dead m.events (list_at m b)

abbrev pub ListsIn : Form → State → (n cap l : ℕ) → List ℕ → Type 0
ListsIn scalar m n cap l h = Scalars h (count_place cap l) (list_place scalar n cap l) cap (list_at m) (dead_in m)
ListsIn sliced m n cap l h = Sliceds h (count_place cap l) (list_place sliced n cap l) cap n (λ b. map (entry_of m.events) (list_at m b)) (dead_in m)

-- ---- all of it

-- the sizes of m's opening
pub record Given (f : Form) (n cap l : ℕ) (m : State) : Type 0 where
  pub form : m.given.form ≡ f
  pub qubits : m.given.n ≡ n
  pub capacity : m.given.capacity ≡ cap
  pub planes : plane m ≡ l

-- the words h hold the events, the lists and the clear of the state m
pub record Holds (f : Form) (n cap l : ℕ) (m : State) (h : List ℕ) : Type 0 where
  pub given : Given f n cap l m
  pub long : length h ≡ history_room f n cap l
  pub count : get_or h 0 0 ≡ length m.events
  pub room : length m.events ≤ cap
  pub cleared : get_or h 1 0 ≡ m.cleared
  pub chains : Chains cap m.events h
  pub bodies : Bodies cap m.events h
  pub signed : scans.Signed l m.events h (sig_place cap)
  pub axed : Axed l m.events h (axis_place cap)
  pub alive : Alive (alive_place cap l) m.events h
  pub many : length m.lists ≡ list_count f n
  pub lists : ListsIn f m n cap l h

-- What `model`'s theorems say of every state that calls can leave (`sane`): the lists are as demand 3 says, a clear was not later than the last
-- event, the axes are of the n qubits, and each rotation has a sign.
pub record Sane (m : State) : Type 0 where
  pub listed : Listed m
  pub past : m.cleared ≤ length m.events
  pub small_x : (i : ℕ) → i < length m.events → (event_at m.events i).x < 2 ^ m.given.n
  pub small_z : (i : ℕ) → i < length m.events → (event_at m.events i).z < 2 ^ m.given.n
  pub signs : (i : ℕ) → i < length m.events → Signed (event_at m.events i).body

-- list b as it stands in the words: as many entries as its count says
unfoldable pub list_in : Form → (n cap l : ℕ) → List ℕ → (b : ℕ) → List ℕ
unfolding list_size
list_in f n cap l h b = take (get_or h (count_place cap l + 2 * b) 0) (drop (list_place f n cap l + b * list_size f n cap) h)

-- ---- the words that a state relies on

-- a word of event i, which is e
abbrev pub OfBody : Body → (live : Bool) → (cap i k : ℕ) → Type 0
OfBody (rotation tag sgn label) true cap i k = (k ≡ link_place cap i) ⊎ Among (label_place cap i) 2 k
OfBody (rotation tag sgn label) false cap i k = Among (label_place cap i) 2 k
OfBody blocker live cap i k = ⊥

abbrev pub OfEvent : Event → (cap l i k : ℕ) → Type 0
OfEvent e cap l i k = OfBody e.body e.live cap i k ⊎ ((k ≡ tag_place cap i) ⊎ ((k ≡ sig_place cap + i) ⊎ Among (axis_place cap + i * (2 * l)) (2 * l) k))

-- a word of list b, of len entries
abbrev pub OfList : Form → (n cap l b len k : ℕ) → Type 0
OfList scalar n cap l b len k = UsedScalar (count_place cap l + 2 * b) (list_place scalar n cap l + b * cap) len k
OfList sliced n cap l b len k = UsedSliced (count_place cap l + 2 * b) (list_place sliced n cap l + b * sliced_room cap n) cap n len k

-- a word of a list
abbrev pub OfLists : Form → (n cap l : ℕ) → State → (k : ℕ) → Type 0
OfLists f n cap l m k = (b : ℕ) × (b < list_count f n) × OfList f n cap l b (length (list_at m b)) k

abbrev pub Uses : Form → (n cap l : ℕ) → State → (k : ℕ) → Type 0
Uses f n cap l m k =
    (k < 2 + cap)
    ⊎ (((i : ℕ) × (i < length m.events) × OfEvent (event_at m.events i) cap l i k)
    ⊎ (Among (alive_place cap l) (words (length m.events)) k
    ⊎ OfLists f n cap l m k))

-- from the words h to g the state becomes m: no word is written that it does not rely on
pub record Becomes (f : Form) (n cap l : ℕ) (m : State) (h g : List ℕ) : Type 0 where
  pub holds : Holds f n cap l m g
  pub only : Only (Uses f n cap l m) h g
