-- What the steps of the work on a sliced list do to its words. Assumes nothing.
use Rattle.std.specs.Prelude.{◌≡◌, true, false, cond, Option, Some, None, Result, Ok, IsErr, List, ℕ, ◌+◌, ◌-◌, ◌*◌, ◌/◌, ◌^◌, ◌≤◌, ◌<◌, eqb, length, get_or, set}
use Rattle.std.specs.Int.Bits.{bit_and, bit_or}
use Rattle.std.specs.Int.Count.{ones}
use Rattle.model.specs.Pauli.{has}
use Rattle.pauli.specs.declared.corrupt.Corrupt.{Corrupt}
use Rattle.lists.specs.declared.budget.Budget.{Budget}
use Rattle.lists.specs.declared.budget.Scan.{Scan}
use Rattle.lists.specs.declared.budget.Scan.TheVariants.{Clear, Blocked, Out}
use Rattle.lists.specs.Lists.{Only, is_live}
use Rattle.lists.specs.Scalars.{pushed}
use Rattle.lists.specs.Scans.{spend_of}
use Rattle.sliced.specs.Blocks.{Entry, entry, fresh, dead, kept, mask_place, live_place, sliced_room, Blocks, Reps, UsedBlocks, Source}

-- the slice has the whole room of a list of at most 32 qubits
pub record Spread (h : List ℕ) (base cap n : ℕ) : Type 0 where
  pub few : n ≤ 32
  pub fits : base + sliced_room cap n ≤ length h

-- the word at + (2 p + odd) has the digits of bit set, for each p in set, and all else is as in h
pub record Marked (h : List ℕ) (at odd set bit : ℕ) (g : List ℕ) : Type 0 where
  pub here : (p : ℕ) → has set p ≡ 1 → get_or g (at + (2 * p + odd)) 0 ≡ bit_or (get_or h (at + (2 * p + odd)) 0) bit
  pub other : (k : ℕ) → ((p : ℕ) → has set p ≡ 1 → k ≡ at + (2 * p + odd) → ⊥) → get_or g k 0 ≡ get_or h k 0
  pub long : length g ≡ length h

-- block len / 64 is in use: opened where it was not
pub record Opened (h : List ℕ) (base cap n len : ℕ) (g : List ℕ) : Type 0 where
  pub ready : (m : List Entry) → length m ≡ len → Reps h base cap n m → Blocks g base cap n (len / 64 + 1) m
  pub other : (k : ℕ) → ((i : ℕ) → i < 2 * n → k ≡ mask_place base cap n (len / 64) + i → ⊥) → (k ≡ live_place base cap n (len / 64) → ⊥) → get_or g k 0 ≡ get_or h k 0
  pub long : length g ≡ length h

-- the entry e is appended to the list of len entries. All words but its number, its block's masks and its block's live word are as they were
pub record Appended (h : List ℕ) (base cap n len : ℕ) (e : Entry) (g : List ℕ) : Type 0 where
  pub reps : (m : List Entry) → length m ≡ len → Reps h base cap n m → Reps g base cap n (pushed e m)
  pub other : (k : ℕ) → (k ≡ base + len → ⊥) → ((i : ℕ) → i < 2 * n → k ≡ mask_place base cap n (len / 64) + i → ⊥) → (k ≡ live_place base cap n (len / 64) → ⊥)
      → get_or g k 0 ≡ get_or h k 0
  pub long : length g ≡ length h

-- the entry at pos is marked dead. All words but its block's live word are as they were
pub record Killed (h : List ℕ) (base cap n pos : ℕ) (g : List ℕ) : Type 0 where
  pub reps : (m : List Entry) → pos < length m → Reps h base cap n m → Reps g base cap n (set m pos (dead (entry m pos)))
  pub other : (k : ℕ) → (k ≡ live_place base cap n (pos / 64) → ⊥) → get_or g k 0 ≡ get_or h k 0
  pub long : length g ≡ length h

-- one entry, of the event id, kept at place k or dropped
pub record Stepped (h : List ℕ) (base cap n k alive axes events id : ℕ) (r : Result ℕ Corrupt) (g : List ℕ) : Type 0 where
  pub unknown : events ≤ id → IsErr r
  pub dead : id < events → is_live h alive id ≡ false → (r ≡ Ok k) × (g ≡ h)
  pub live : id < events → is_live h alive id ≡ true → get_or h (axes + 2 * id) 0 < 2 ^ n → get_or h (axes + (2 * id + 1)) 0 < 2 ^ n
      → (r ≡ Ok (k + 1)) × Appended h base cap n k (fresh id (get_or h (axes + 2 * id) 0) (get_or h (axes + (2 * id + 1)) 0)) g
  pub next : (j : ℕ) → r ≡ Ok j → j ≤ k + 1
  pub long : length g ≡ length h

-- the first b blocks of a list of len entries are full, of entries marked live whose events are live
pub record Settled (h : List ℕ) (base cap n len alive b : ℕ) : Type 0 where
  pub within : 64 * b ≤ len
  pub marked : (c : ℕ) → c < b → get_or h (live_place base cap n c) 0 ≡ 2 ^ 64 - 1
  pub live : (i : ℕ) → i < 64 * b → is_live h alive (get_or h (base + i) 0) ≡ true

-- the list of len entries becomes that of its live ones
pub record Rebuilt (h : List ℕ) (base cap n len alive axes events : ℕ) (r : Result ℕ Corrupt) (g : List ℕ) : Type 0 where
  pub long : length g ≡ length h
  pub next : (j : ℕ) → r ≡ Ok j → j ≤ len
  pub all : (m : List Entry) → length m ≡ len → Reps h base cap n m → Source h n axes events m
      → (r ≡ Ok (length (kept (is_live h alive) m))) × Reps g base cap n (kept (is_live h alive) m)
      × Only (UsedBlocks base cap n (length (kept (is_live h alive) m))) h g

-- ---- a scan

-- a block that is paid for stops the scan where a digit of the test is set
unfoldable pub paid : (test : ℕ) → Budget → Option Budget → Scan
paid test left None = Out left
paid test left (Some rest) = cond (eqb test 0) (Clear rest) (Blocked rest)

-- one block with these live entries, of which those in word anticommute and those in first are asked for
abbrev pub visited : (live word first : ℕ) → Budget → Scan
visited live word first left = paid (bit_and (bit_and word live) first) left (spend_of left (ones live))

-- a scan goes on where it is clear so far
unfoldable pub and_then : Scan → (Budget → Scan) → Scan
and_then (Clear left) f = f left
and_then (Blocked left) f = Blocked left
and_then (Out left) f = Out left
