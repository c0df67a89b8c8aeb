-- The promise of a call, in one form for all of them (DESIGN.md 3): s is the slice at entry, t at exit, r what the call gives back. On any contents:
-- a slice that is too short gets 3, no number is above 9, and an answer from 1 to 8 leaves every word. On words that hold a state m that calls can leave:
-- the answer is `model`'s, and every word is the new state's or, where that relies on none, as at entry. Assumes nothing.
use Rattle.std.specs.Prelude.{◌≡◌, Option, Some, None, Result, Ok, Err, Bool, cond, ◌||◌, List, ℕ, ◌≤◌, ◌<◌, length, get_or, eqb, leb}
use Rattle.model.specs.Events.{Opening, State, some}
use Rattle.model.specs.Search as model
use Rattle.model.specs.Calls.{Call, Reply, refused, accepted, recorded, says, looked, open_answer, opened, twice, reply, call}
use Rattle.store.specs.declared.refusals.OpenError.{OpenError}
use Rattle.store.specs.declared.refusals.Refusal.{Refusal}
use Rattle.store.specs.Refusals.{code_of, open_code_of}
use Rattle.history.specs.declared.events.Rotation.{Rotation}
use Rattle.history.specs.declared.findings.Look.{Look}
use Rattle.history.specs.declared.findings.Found.{Found}
use Rattle.history.specs.declared.findings.Found.TheVariants.{Partner, Nothing, Blocked, OutOfSteps}
use Rattle.store.specs.Stores.{Held, HeldTo}

-- ---- 01's number and values for each case of an answer

-- "0: done"
unfoldable pub number : Reply → ℕ
number (refused k) = k
number accepted = 0
number (recorded id) = 0
number (says v) = 0
number (looked a) = 0

-- the reply of a result: of an opening; of a call that is done, or that recorded, or that is one or the other
abbrev pub told_open : Result Unit OpenError → Reply
told_open (Ok u) = accepted
told_open (Err e) = refused (open_code_of e)

abbrev pub told_done : Result Unit Refusal → Reply
told_done (Ok u) = accepted
told_done (Err e) = refused (code_of e)

abbrev pub told_first : Result ℕ Refusal → Reply
told_first (Ok id) = recorded id
told_first (Err e) = refused (code_of e)

abbrev pub told : Result (Option ℕ) Refusal → Reply
told (Ok None) = accepted
told (Ok (Some id)) = recorded id
told (Err e) = refused (code_of e)

-- of a read and of a look
unfoldable pub told_read : Result Rotation Refusal → Reply
told_read (Ok v) = says (record { tag = v.tag; sgn = v.sign; live = v.live })
told_read (Err e) = refused (code_of e)

unfoldable pub seen_of : Found → (steps : ℕ) → model.Look
seen_of (Partner id sgn) n = model.found id sgn n
seen_of Nothing n = model.none n
seen_of Blocked n = model.blocked n
seen_of OutOfSteps n = model.out n

unfoldable pub told_look : Result Look Refusal → Reply
told_look (Ok a) = looked (seen_of a.found a.steps)
told_look (Err e) = refused (code_of e)

-- 8 is given for "a turn other than 0, 2, 4, 6"
unfoldable pub turn_known : (k : ℕ) → Bool
turn_known k = eqb k 0 || eqb k 2 || eqb k 4 || eqb k 6

-- "4: a qubit is n or more", "5: one gate names a qubit twice", else 0
unfoldable pub qubit_number : (n : ℕ) → List ℕ → ℕ
qubit_number n qs = cond (some (leb n) qs) 4 (cond (twice qs) 5 0)

-- ---- the promises

-- what a call answers
pub record Answers (c : Call) (s : List ℕ) (r : Reply) : Type 0 where
  -- "too short to say what that was"
  pub headless : length s < 14 → r ≡ refused 3
  -- "store shorter than at its opening"
  pub shorter : length s < get_or s 0 0 → r ≡ refused 3
  -- "answer 9 or a plain answer comes back", or a refusal that 01 has
  pub known : number r ≤ 9
  pub meaning : (m : State) → Held m s → r ≡ reply c (length s) m

-- what a call that writes promises
pub record Meets (c : Call) (s : List ℕ) (r : Reply) (t : List ℕ) : Type 0 where
  pub answers : Answers c s r
  -- "Nothing is written on 1 to 8."
  pub untouched : 1 ≤ number r → number r ≤ 8 → t ≡ s
  pub same_length : length t ≡ length s
  pub becomes : (m : State) → Held m s → HeldTo (call c (length s) m) s t

-- what an opening promises, over any words: "Opening sets every word it relies on; old contents don't matter"
pub record Opens (o : Opening) (s : List ℕ) (r : Reply) (t : List ℕ) : Type 0 where
  pub answer : r ≡ cond (eqb (open_answer o) 0) accepted (refused (open_answer o))
  pub untouched : (open_answer o ≡ 0 → ⊥) → t ≡ s
  pub becomes : open_answer o ≡ 0 → HeldTo (opened o) s t
