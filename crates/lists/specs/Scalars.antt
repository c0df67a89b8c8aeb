-- A scalar list: its counts and its numbers. Assumes nothing.
use Rattle.std.specs.Prelude.{◌≡◌, ◌⊎◌, true, false, Result, Ok, IsErr, List, [], ◌∷◌, ◌++◌, ℕ, ◌+◌, ◌≤◌, ◌<◌, length, get_or}
use Rattle.model.specs.Events.{keep}
use Rattle.pauli.specs.declared.corrupt.Corrupt.{Corrupt}
use Rattle.lists.specs.Lists.{Counts, Numbers, Among, Only, is_live, Known, left}

-- the words are the list ids, of which d are dead
pub record Scalar (h : List ℕ) (at base cap : ℕ) (ids : List ℕ) (d : ℕ) : Type 0 where
  pub counts : Counts h at (length ids) d
  pub within : length ids ≤ cap
  pub numbers : Numbers h base ids

-- a word that a list of len entries relies on
abbrev pub UsedScalar : (at base len k : ℕ) → Type 0
UsedScalar at base len k = Among at 2 k ⊎ Among base len k

-- from the words h to g the list becomes ids, of which d are dead: no word is written that it does not rely on
pub record ScalarTo (h : List ℕ) (at base cap : ℕ) (ids : List ℕ) (d : ℕ) (g : List ℕ) : Type 0 where
  pub holds : Scalar g at base cap ids d
  pub only : Only (UsedScalar at base (length ids)) h g

-- ---- what is done to a list

unfoldable pub pushed : {A : Type 0} → A → List A → List A
pushed a s = s ++ (a ∷ [])

-- one more is dead, and is no longer in the set of live events
unfoldable pub noted : List ℕ → (alive d : ℕ) → List ℕ → List ℕ
noted h alive d ids = left 4 (d + 1) (keep (is_live h alive) ids) ids

-- ---- the steps of a drop

-- the number id at place k, where its event is live: all other words are as they were
pub record Retained (h : List ℕ) (base k alive events id : ℕ) (r : Result ℕ Corrupt) (g : List ℕ) : Type 0 where
  pub unknown : events ≤ id → IsErr r
  pub live : id < events → is_live h alive id ≡ true → (r ≡ Ok (k + 1)) × (get_or g (base + k) 0 ≡ id)
  pub dead : id < events → is_live h alive id ≡ false → (r ≡ Ok k) × (g ≡ h)
  pub next : (j : ℕ) → r ≡ Ok j → j ≤ k + 1
  pub only : Only (Among (base + k) 1) h g

-- the live numbers of a list of len
pub record Dropped (h : List ℕ) (base len alive events : ℕ) (r : Result ℕ Corrupt) (g : List ℕ) : Type 0 where
  pub long : length g ≡ length h
  pub next : (j : ℕ) → r ≡ Ok j → j ≤ len
  pub all : (ids : List ℕ) → length ids ≡ len → Numbers h base ids → Known events ids
      → (r ≡ Ok (length (keep (is_live h alive) ids))) × Numbers g base (keep (is_live h alive) ids) × Only (Among base (length (keep (is_live h alive) ids))) h g
