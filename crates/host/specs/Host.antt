-- What a function of the host library promises: its number k and the words that it leaves are those of a reply with which the call that it wraps
-- keeps its own promise (crates/store/specs/Promises.antt). s and t are the store at entry and at exit, v and w the words of the answer at entry
-- and at exit. Assumes nothing.
use Rattle.std.specs.Prelude.{◌≡◌, Bool, cond, List, [], ◌∷◌, ◌++◌, ℕ, ◌-◌, ◌*◌, ◌^◌, ◌≤◌, ◌<◌, length, drop, eqb, ℤ}
use Rattle.std.specs.Int.Signed.{non_neg}
use Rattle.model.specs.Search.{Look, found, none, blocked, out}
use Rattle.model.specs.Calls.{open_number, Call, Reading, Reply, refused, accepted, recorded, says, looked}
use Rattle.store.specs.Promises.{number, Answers, Meets, Opens}
use Rattle.model.specs.Events.{Opening, Form}
use Rattle.model.specs.Store.{need}
use Rattle.host.specs.Numbers.{Meant, known, unknown}

-- ---- a reply in words

-- 1; -1 is the word that a signed reader takes for -1
unfoldable pub sign_word : ℤ → ℕ
sign_word g = cond (non_neg g) 1 (2 ^ 64 - 1)

-- 1 for yes, 0 for no
unfoldable pub bit : Bool → ℕ
bit b = cond b 1 0

-- tag, sign, live
unfoldable pub reading_words : Reading → List ℕ
reading_words r = r.tag ∷ sign_word r.sgn ∷ bit r.live ∷ []

-- 0 none, 1 found, 2 blocked, 3 out; the partner's number and the relative sign, or 0; the steps
unfoldable pub look_words : Look → List ℕ
look_words (none n) = 0 ∷ 0 ∷ 0 ∷ n ∷ []
look_words (found id g n) = 1 ∷ id ∷ sign_word g ∷ n ∷ []
look_words (blocked n) = 2 ∷ 0 ∷ 0 ∷ n ∷ []
look_words (out n) = 3 ∷ 0 ∷ 0 ∷ n ∷ []

-- the number of the first event that was recorded; else what stood there
unfoldable pub first_of : Reply → ℕ → ℕ
first_of (refused k) v = v
first_of accepted v = v
first_of (recorded id) v = id
first_of (says r) v = v
first_of (looked a) v = v

-- what a question says, in the first words of v; else v as it was
unfoldable pub words_of : Reply → List ℕ → List ℕ
words_of (refused k) v = v
words_of accepted v = v
words_of (recorded id) v = v
words_of (says r) v = reading_words r ++ drop 3 v
words_of (looked a) v = look_words a ++ drop 4 v

-- ---- the promises

-- the words that an opening of these sizes needs, or 0 where it is refused however many are lent
unfoldable pub needed : (n E : ℕ) → Form → ℕ
needed n E f = cond (eqb (open_number n E 0 f (4 * n) (2 ^ 64 - 1)) 0) (need n E f) 0

-- an opening
pub record Opened (o : Opening) (s : List ℕ) (k : ℕ) (t : List ℕ) : Type 0 where
  pub reply : Reply
  pub opens : Opens o s reply t
  pub number_is : k ≡ number reply

-- a call that writes
pub record Done (c : Call) (s : List ℕ) (k : ℕ) (t : List ℕ) : Type 0 where
  pub reply : Reply
  pub meets : Meets c s reply t
  pub number_is : k ≡ number reply

-- a call that records
pub record Recorded (c : Call) (s : List ℕ) (v k : ℕ) (t : List ℕ) (w : ℕ) : Type 0 where
  pub reply : Reply
  pub meets : Meets c s reply t
  pub number_is : k ≡ number reply
  pub first_is : w ≡ first_of reply v

-- a question
pub record Asked (c : Call) (s v : List ℕ) (k : ℕ) (w : List ℕ) : Type 0 where
  pub reply : Reply
  pub answers : Answers c s reply
  pub number_is : k ≡ number reply
  pub words_are : w ≡ words_of reply v

-- What is promised where an answer takes so many words of v: P; or, where v is too short, what is promised then.
pub record Lent (room : ℕ) (v : List ℕ) (P Short : Type 0) : Type 0 where
  pub whole : room ≤ length v → P
  pub short : length v < room → Short

-- What is promised where something is named by a number: P of what it names; or, where it names nothing, what is promised then.
unfoldable pub Named : {A : Type 0} → Meant A → (A → Type 0) → (Unnamed : Type 0) → Type 0
Named (known a) P Unnamed = P a
Named unknown P Unnamed = Unnamed
