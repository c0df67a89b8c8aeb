-- All lists of a form in the words of one slice: list b has its counts at at + 2 b, and its entries in the room of `size` words from
-- base + b * size on. Assumes nothing.
use Rattle.std.specs.Prelude.{◌≡◌, cond, Result, Ok, IsOk, List, map, ℕ, ◌+◌, ◌*◌, ◌^◌, ◌≤◌, ◌<◌, length, get_or, eqb}
use Rattle.model.specs.Pauli.{has}
use Rattle.model.specs.Events.{State, scalar, sliced}
use Rattle.model.specs.Search.{walk, list_at, scalar_list, sliced_list}
use Rattle.pauli.specs.Rows.{of_row, signature}
use Rattle.pauli.specs.declared.corrupt.Corrupt.{Corrupt}
use Rattle.lists.specs.declared.budget.Budget.{Budget}
use Rattle.lists.specs.declared.budget.Scan.{Scan}
use Rattle.lists.specs.Lists.{Only, Rises, Known, still}
use Rattle.lists.specs.Scalars.{Scalar, ScalarTo, UsedScalar, pushed, noted}
use Rattle.sliced.specs.Blocks.{Entry, entry, fresh, entry_of, sliced_room, Reps, Sliced, SlicedTo, UsedSliced, RisingIds, Source, killed_at}
use Rattle.lists.specs.Scans.{Scannable, scan_of}

-- F for the lists of the bits set in sig, G for the others
unfoldable pub chosen : {A : Type 0} → (sig : ℕ) → (F G : ℕ → A) → ℕ → A
chosen sig F G b = cond (eqb (has sig b) 1) (F b) (G b)

-- ---- scalar

-- the slice has the counts of 64 lists, and behind them their rooms
pub record ScalarRooms (h : List ℕ) (at base cap : ℕ) : Type 0 where
  pub counts : at + 2 * 64 ≤ base
  pub fits : base + 64 * cap ≤ length h

-- the words are the lists ls, of which d are dead
abbrev pub Scalars : List ℕ → (at base cap : ℕ) → (ℕ → List ℕ) → (ℕ → ℕ) → Type 0
Scalars h at base cap ls d = (b : ℕ) → b < 64 → Scalar h (at + 2 * b) (base + b * cap) cap (ls b) (d b)

-- a word that one of the lists of sig relies on
abbrev pub UsedScalars : (at base cap sig : ℕ) → (ℕ → List ℕ) → (k : ℕ) → Type 0
UsedScalars at base cap sig ls k = (b : ℕ) × (b < 64) × (has sig b ≡ 1) × UsedScalar (at + 2 * b) (base + b * cap) (length (ls b)) k

-- from the words h to g the lists become ls: only words of the lists of sig are written, and none that they do not rely on
pub record ScalarsTo (h : List ℕ) (at base cap sig : ℕ) (ls : ℕ → List ℕ) (d : ℕ → ℕ) (g : List ℕ) : Type 0 where
  pub holds : Scalars g at base cap ls d
  pub only : Only (UsedScalars at base cap sig ls) h g

-- ---- sliced

pub record SlicedRooms (h : List ℕ) (at base cap n : ℕ) : Type 0 where
  pub few : n ≤ 32
  pub counts : at + 2 * n ≤ base
  pub fits : base + n * sliced_room cap n ≤ length h

abbrev pub Sliceds : List ℕ → (at base cap n : ℕ) → (ℕ → List Entry) → (ℕ → ℕ) → Type 0
Sliceds h at base cap n ms d = (b : ℕ) → b < n → Sliced h (at + 2 * b) (base + b * sliced_room cap n) cap n (ms b) (d b)

abbrev pub UsedSliceds : (at base cap n sig : ℕ) → (ℕ → List Entry) → (k : ℕ) → Type 0
UsedSliceds at base cap n sig ms k = (b : ℕ) × (b < n) × (has sig b ≡ 1) × UsedSliced (at + 2 * b) (base + b * sliced_room cap n) cap n (length (ms b)) k

pub record SlicedsTo (h : List ℕ) (at base cap n sig : ℕ) (ms : ℕ → List Entry) (d : ℕ → ℕ) (g : List ℕ) : Type 0 where
  pub holds : Sliceds g at base cap n ms d
  pub only : Only (UsedSliceds at base cap n sig ms) h g

-- ---- what a look finds of the state in the words

pub record AllScannable (s : State) (l events : ℕ) (h : List ℕ) (at base cap sigs axes : ℕ) : Type 0 where
  pub form : s.given.form ≡ scalar
  pub many : length s.lists ≡ 64
  pub count : (b : ℕ) → b < 64 → get_or h (at + 2 * b) 0 ≡ length (list_at s b)
  pub within : (b : ℕ) → b < 64 → length (list_at s b) ≤ cap
  pub each : (b : ℕ) → b < 64 → Scannable s b l events h (base + b * cap) (length (list_at s b)) sigs axes

pub record AllSliced (s : State) (h : List ℕ) (at base cap n : ℕ) : Type 0 where
  pub form : s.given.form ≡ sliced
  pub qubits : s.given.n ≡ n
  pub many : length s.lists ≡ n
  pub count : (b : ℕ) → b < n → get_or h (at + 2 * b) 0 ≡ length (list_at s b)
  pub each : (b : ℕ) → b < n → Reps h (base + b * sliced_room cap n) cap n (map (entry_of s.events) (list_at s b))
  pub rises : (b : ℕ) → b < n → Rises (list_at s b)

-- ---- what a call for list b does: the words h become g, with the answer r

abbrev pub ScalarPushes : (at base cap b id : ℕ) → (h g : List ℕ) → Result (Unit {0}) Corrupt → Type 0
ScalarPushes at base cap b id h g r =
    (ids : List ℕ) (d : ℕ) → Scalar h (at + 2 * b) (base + b * cap) cap ids d → length ids < cap
    → IsOk r × ScalarTo h (at + 2 * b) (base + b * cap) cap (pushed id ids) d g

abbrev pub ScalarKills : (at base cap alive events b : ℕ) → (h g : List ℕ) → Result (Unit {0}) Corrupt → Type 0
ScalarKills at base cap alive events b h g r =
    (ids : List ℕ) (d : ℕ) → Scalar h (at + 2 * b) (base + b * cap) cap ids d → d < length ids → Known events ids
    → IsOk r × ScalarTo h (at + 2 * b) (base + b * cap) cap (noted h alive d ids) (still 4 (d + 1) (length ids)) g

abbrev pub ScalarScans : (at base cap sigs axes l events b : ℕ) → (axis : List ℕ) → (sig after : ℕ) → Budget → List ℕ → Result Scan Corrupt → Type 0
ScalarScans at base cap sigs axes l events b axis sig after left h r =
    (s : State) → AllScannable s l events h at base cap sigs axes → sig ≡ signature l (of_row 0 axis).x (of_row 0 axis).z → has sig b ≡ 1
    → r ≡ Ok (scan_of (walk (scalar_list s after (of_row 0 axis).x (of_row 0 axis).z b) left.0))

abbrev pub SlicedPushes : (at base cap n b id x z : ℕ) → (h g : List ℕ) → Result (Unit {0}) Corrupt → Type 0
SlicedPushes at base cap n b id x z h g r =
    (m : List Entry) (d : ℕ) → Sliced h (at + 2 * b) (base + b * sliced_room cap n) cap n m d → length m < cap
    → IsOk r × SlicedTo h (at + 2 * b) (base + b * sliced_room cap n) cap n (pushed (fresh id x z) m) d g

abbrev pub SlicedKills : (at base cap n alive axes events b id : ℕ) → (h g : List ℕ) → Result (Unit {0}) Corrupt → Type 0
SlicedKills at base cap n alive axes events b id h g r =
    (m : List Entry) (d pos : ℕ) → Sliced h (at + 2 * b) (base + b * sliced_room cap n) cap n m d → d < length m → RisingIds m → Source h n axes events m
    → pos < length m → (entry m pos).id ≡ id
    → IsOk r × SlicedTo h (at + 2 * b) (base + b * sliced_room cap n) cap n (killed_at h alive d pos m) (still 2 (d + 1) (length m)) g

abbrev pub SlicedScans : (at base cap n b x z after : ℕ) → Budget → List ℕ → Result Scan Corrupt → Type 0
SlicedScans at base cap n b x z after left h r =
    (s : State) → AllSliced s h at base cap n → r ≡ Ok (scan_of (walk (sliced_list s after x z b) left.0))

-- an axis of n qubits in two words
pub record TwoWords (n : ℕ) (axis : List ℕ) : Type 0 where
  pub long : length axis ≡ 2
  pub small_x : get_or axis 0 0 < 2 ^ n
  pub small_z : get_or axis 1 0 < 2 ^ n
