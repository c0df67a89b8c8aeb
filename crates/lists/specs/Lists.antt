-- A list of event numbers in the words of one slice (docs/STORE.md): its two counts stand at `at`, and its entries from `base` on.
-- Assumes nothing.
use Rattle.std.specs.Prelude.{◌≡◌, Bool, cond, Option, Some, None, List, ℕ, ◌+◌, ◌*◌, ◌/◌, ◌%◌, ◌≤◌, ◌<◌, length, get_or, eqb, ltb}
use Rattle.model.specs.Pauli.{has}

-- ---- the words

-- the slice has the two counts, and behind them the room of `size` words of the entries
pub record Room (h : List ℕ) (at base size : ℕ) : Type 0 where
  pub counts : at + 2 ≤ base
  pub fits : base + size ≤ length h

-- how many entries there are, and how many of them are dead
pub record Counts (h : List ℕ) (at k d : ℕ) : Type 0 where
  pub len : get_or h at 0 ≡ k
  pub dead : get_or h (at + 1) 0 ≡ d

-- the entries
abbrev pub Numbers : List ℕ → (base : ℕ) → List ℕ → Type 0
Numbers h base ids = (i : ℕ) → i < length ids → get_or h (base + i) 0 ≡ get_or ids i 0

-- t is s but for the words of P
pub record Only (P : ℕ → Type 0) (s t : List ℕ) : Type 0 where
  pub same_length : length t ≡ length s
  pub kept : (k : ℕ) → (P k → ⊥) → get_or t k 0 ≡ get_or s k 0

-- k is one of the n words from a on
abbrev pub Among : (a n k : ℕ) → Type 0
Among a n k = (a ≤ k) × (k < a + n)

-- ---- dead entries

-- the set of the live events, in the words from `alive` on: 1 where event e is in it
abbrev pub live_in : List ℕ → (alive e : ℕ) → ℕ
live_in h alive e = has (get_or h (alive + e / 64) 0) (e % 64)

unfoldable pub is_live : List ℕ → (alive e : ℕ) → Bool
is_live h alive e = eqb (live_in h alive e) 1

-- all entries are of the events below `events`
abbrev pub Known : (events : ℕ) → List ℕ → Type 0
Known events ids = (i : ℕ) → i < length ids → get_or ids i 0 < events

-- "a scalar list drops its dead when 4·dead > length, a sliced one when 2·dead > length": with f for the 4 or 2, what is left of a list of len
-- entries, d of them dead, and how many dead there are then
unfoldable pub drops_at : (f d len : ℕ) → Bool
drops_at f d len = ltb len (f * d)

unfoldable pub left : {A : Type 0} → (f d : ℕ) → (dropped ids : List A) → List A
left f d dropped ids = cond (drops_at f d (length ids)) dropped ids

unfoldable pub still : (f d len : ℕ) → ℕ
still f d len = cond (drops_at f d len) 0 d

-- ---- places in a rising list

-- the numbers rise
abbrev pub Rises : List ℕ → Type 0
Rises ids = (i j : ℕ) → i < j → j < length ids → get_or ids i 0 < get_or ids j 0

-- r is the place of the first number past a: those before it are at most a, and those from it on are above a
pub record Splits (ids : List ℕ) (a r : ℕ) : Type 0 where
  pub within : r ≤ length ids
  pub below : (k : ℕ) → k < r → get_or ids k 0 ≤ a
  pub above : (k : ℕ) → r ≤ k → k < length ids → a < get_or ids k 0

-- the answer is the place of id; where the numbers rise it is not said to be lost while it stands there
abbrev pub Sought : List ℕ → (id : ℕ) → Option ℕ → Type 0
Sought ids id (Some p) = (p < length ids) × (get_or ids p 0 ≡ id)
Sought ids id None = Rises ids → (p : ℕ) → p < length ids → get_or ids p 0 ≡ id → ⊥
