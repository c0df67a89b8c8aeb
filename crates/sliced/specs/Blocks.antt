-- A sliced list: its counts, its numbers and, for each block of 64 entries, 2 n masks and a live word. Entry j of a block has digit j of each:
-- mask 2 p marks the entries with qubit p in their X set, mask 2 p + 1 those with it in their Z set. Assumes nothing.
use Rattle.std.specs.Prelude.{◌≡◌, ◌⊎◌, Bool, cond, List, [], ◌∷◌, ℕ, ◌+◌, ◌*◌, ◌^◌, ◌≤◌, ◌<◌, length, get_or, set}
use Rattle.model.specs.Pauli.{has}
use Rattle.model.specs.Events.{Event, words, event_at, live_at}
use Rattle.lists.specs.Lists.{Counts, Among, Only, is_live, left}

-- an entry: an event's number, its axis, and 1 where it is live, 0 where it is dead
pub record Entry : Type 0 where
  pub id : ℕ
  pub x : ℕ
  pub z : ℕ
  pub live : ℕ

-- what stands past the end
abbrev pub no_entry : Entry
no_entry = record { id = 0; x = 0; z = 0; live = 0 }

abbrev pub entry : List Entry → ℕ → Entry
entry m i = get_or m i no_entry

-- a live entry
abbrev pub fresh : (id x z : ℕ) → Entry
fresh id x z = record { id = id; x = x; z = z; live = 1 }

-- an entry, marked dead
abbrev pub dead : Entry → Entry
dead e = record { id = e.id; x = e.x; z = e.z; live = 0 }

-- the entry of an event of `model`
unfoldable pub entry_of : List Event → ℕ → Entry
entry_of es id = record { id = id; x = (event_at es id).x; z = (event_at es id).z; live = cond (live_at es id) 1 0 }

-- ---- the words

-- from base on cap words of numbers, then 2 n masks for each block, then a live word for each block
abbrev pub mask_place : (base cap n b : ℕ) → ℕ
mask_place base cap n b = base + cap + b * (2 * n)

abbrev pub live_place : (base cap n b : ℕ) → ℕ
live_place base cap n b = base + cap + words cap * (2 * n) + b

abbrev pub sliced_room : (cap n : ℕ) → ℕ
sliced_room cap n = cap + words cap * (2 * n) + words cap

-- the words are the list m, in its first k blocks
pub record Blocks (h : List ℕ) (base cap n k : ℕ) (m : List Entry) : Type 0 where
  pub within : length m ≤ cap
  pub ids : (i : ℕ) → i < length m → get_or h (base + i) 0 ≡ (entry m i).id
  pub xs : (b p j : ℕ) → b < k → p < n → j < 64 → has (get_or h (mask_place base cap n b + (2 * p + 0)) 0) j ≡ has (entry m (b * 64 + j)).x p
  pub zs : (b p j : ℕ) → b < k → p < n → j < 64 → has (get_or h (mask_place base cap n b + (2 * p + 1)) 0) j ≡ has (entry m (b * 64 + j)).z p
  pub lives : (b j : ℕ) → b < k → j < 64 → has (get_or h (live_place base cap n b) 0) j ≡ (entry m (b * 64 + j)).live

-- the words are the list m
abbrev pub Reps : List ℕ → (base cap n : ℕ) → List Entry → Type 0
Reps h base cap n m = Blocks h base cap n (words (length m)) m

-- with its counts: d entries are dead
pub record Sliced (h : List ℕ) (at base cap n : ℕ) (m : List Entry) (d : ℕ) : Type 0 where
  pub counts : Counts h at (length m) d
  pub reps : Reps h base cap n m

-- a word that a list of len entries relies on, its counts aside
abbrev pub UsedBlocks : (base cap n len k : ℕ) → Type 0
UsedBlocks base cap n len k = Among base len k ⊎ (Among (base + cap) (words len * (2 * n)) k ⊎ Among (live_place base cap n 0) (words len) k)

abbrev pub UsedSliced : (at base cap n len k : ℕ) → Type 0
UsedSliced at base cap n len k = Among at 2 k ⊎ UsedBlocks base cap n len k

-- from the words h to g the list becomes m, of which d are dead: no word is written that it does not rely on
pub record SlicedTo (h : List ℕ) (at base cap n : ℕ) (m : List Entry) (d : ℕ) (g : List ℕ) : Type 0 where
  pub holds : Sliced g at base cap n m d
  pub only : Only (UsedSliced at base cap n (length m)) h g

-- ---- what is done to a list

-- the axis of each entry stands in the two words at axes + 2 e for its event e, and is of n qubits; the event is below `events`
pub record Source (h : List ℕ) (n axes events : ℕ) (m : List Entry) : Type 0 where
  pub known : (i : ℕ) → i < length m → (entry m i).id < events
  pub xs : (i : ℕ) → i < length m → get_or h (axes + 2 * (entry m i).id) 0 ≡ (entry m i).x
  pub zs : (i : ℕ) → i < length m → get_or h (axes + (2 * (entry m i).id + 1)) 0 ≡ (entry m i).z
  pub small_x : (i : ℕ) → i < length m → (entry m i).x < 2 ^ n
  pub small_z : (i : ℕ) → i < length m → (entry m i).z < 2 ^ n

-- the numbers of the entries rise
abbrev pub RisingIds : List Entry → Type 0
RisingIds m = (i j : ℕ) → i < j → j < length m → (entry m i).id < (entry m j).id

-- the entries whose events are live, as live ones
unfoldable pub kept : (ℕ → Bool) → List Entry → List Entry
kept live [] = []
kept live (e ∷ m) = let t : List Entry = kept live m in cond (live e.id) (fresh e.id e.x e.z ∷ t) t

-- the entry at pos is dead, and its event no longer in the set of live events
unfoldable pub killed_at : List ℕ → (alive d pos : ℕ) → List Entry → List Entry
killed_at h alive d pos m = left 2 (d + 1) (kept (is_live h alive) m) (set m pos (dead (entry m pos)))
