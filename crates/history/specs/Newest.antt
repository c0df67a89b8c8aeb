-- Chains of rotations whose labels fall into one bucket, in the words of a slice (docs/STORE.md): from word 2 on cap heads, one a bucket, then
-- a link for each of cap events. A head or a link is an event's number plus 1, or 0 for none. Assumes nothing.
use Rattle.std.specs.Prelude.{◌≡◌, ◌⊎◌, Bool, true, cond, List, ℕ, zero, suc, ◌+◌, ◌*◌, ◌/◌, ◌%◌, ◌^◌, ◌<◌, length, get_or}

-- the bucket of a label by its low word: a product and a shift in place of a division
unfoldable pub bucket_of : (cap low : ℕ) → ℕ
bucket_of cap low = low % 2 ^ 32 * cap / 2 ^ 32

abbrev pub head_place : (k : ℕ) → ℕ
head_place k = 2 + k

abbrev pub link_place : (cap i : ℕ) → ℕ
link_place cap i = 2 + cap + i

-- the newest event below n that p picks, plus 1; or 0
unfoldable pub newest : (ℕ → Bool) → (n : ℕ) → ℕ
newest p zero = 0
newest p (suc i) = let r : ℕ = newest p i in cond (p i) (suc i) r

-- the words are the chain, in bucket k, of the events below n that p picks: the head is the newest of them, and a link the newest before its own
pub record Chained (p : ℕ → Bool) (n cap k : ℕ) (h : List ℕ) : Type 0 where
  pub head : get_or h (head_place k) 0 ≡ newest p n
  pub link : (i : ℕ) → i < n → p i ≡ true → get_or h (link_place cap i) 0 ≡ newest p i

-- ---- a new head

pub record Linked (h : List ℕ) (cap k id : ℕ) (g : List ℕ) : Type 0 where
  pub head : get_or g (head_place k) 0 ≡ id + 1
  pub link : get_or g (link_place cap id) 0 ≡ get_or h (head_place k) 0
  pub other : (j : ℕ) → (j ≡ head_place k → ⊥) → (j ≡ link_place cap id → ⊥) → get_or g j 0 ≡ get_or h j 0
  pub long : length g ≡ length h

-- ---- an event out of its chain

-- c is the head or the link of an event below n, next to which, down the chain, stands the event id
pub record Before (p : ℕ → Bool) (n cap k id c : ℕ) : Type 0 where
  pub upper : ℕ
  pub next : newest p upper ≡ suc id
  pub place : ((c ≡ head_place k) × (upper ≡ n)) ⊎ ((c ≡ link_place cap upper) × (upper < n) × (p upper ≡ true))

-- that cell has, in g, what stood behind the event id, and all other words are as they were
pub record Unlinked (p : ℕ → Bool) (n cap k id : ℕ) (h g : List ℕ) : Type 0 where
  pub cell : ℕ
  pub before : Before p n cap k id cell
  pub here : get_or g cell 0 ≡ newest p id
  pub other : (j : ℕ) → (j ≡ cell → ⊥) → get_or g j 0 ≡ get_or h j 0
