-- Laws of the answer numbers: what `answer` of `model` says of a call, by what the call has found so far, in 01's order. Assumes nothing.
use mathlib.Core.Path.{◌≡◌, refl, sym, ◌∙◌}
use mathlib.Core.Bool.{Bool, true, false, cond}
use mathlib.Core.List.{List}
use Prim.Native.Nat.{ℕ, zero, suc, ◌+◌, ◌≤◌, ◌<◌}
use native.Mathlib.Omega.{arith}
use lib.ListN.{length}
use lib.Dec.{ltb, leb}
use borrow.Author.Tests.{lt-ltb, le-ltb}
use Rattle.model.specs.Events.{State, some}
use Rattle.model.specs.Calls.{answer, twice}
use Rattle.store.specs.Stores.{Stored}
use Rattle.store.specs.declared.refusals.Refusal.{Refusal}
use Rattle.store.specs.declared.refusals.Refusal.TheVariants.{TooShort, NoSuchQubit, SameQubit, Full, NoSuchEvent, Turn, Corrupt}
use Rattle.store.specs.Refusals.{code_of}
use Rattle.std.proofs.Common.{Result, Ok, Err}
use Rattle.history.specs.declared.findings.Look.{Look}
use Rattle.store.specs.Promises.{turn_known, qubit_number, number, told_look}

-- what is left of the answer once the qubits are there and differ
unfoldable pub last_number : State → (records : ℕ) → (bad : Bool) → ℕ
last_number m records bad = cond (ltb m.given.capacity (length m.events + records)) 6 (cond bad 7 0)

module _ (m : State) (w k : ℕ) (qs : List ℕ) (records : ℕ) (bad : Bool) (long : m.given.size ≤ w) where
  -- "8: a turn other than 0, 2, 4, 6"
  pub answer_turn : turn_known k ≡ false → answer m w k qs records bad ≡ 8
  unfolding answer turn_known
  answer_turn e = rw (le-ltb w m.given.size long, e) refl

  -- "4: a qubit is n or more", "5: one gate names a qubit twice"
  pub answer_qubits : turn_known k ≡ true → (a : ℕ) → qubit_number m.given.n qs ≡ suc a → answer m w k qs records bad ≡ suc a
  unfolding answer turn_known qubit_number
  answer_qubits e a h = rw (le-ltb w m.given.size long, e) (go (some (leb m.given.n) qs) (twice qs) h)
    where
      go : (p q : Bool) → cond p 4 (cond q 5 0) ≡ suc a → cond p 4 (cond q 5 (cond (ltb m.given.capacity (length m.events + records)) 6 (cond bad 7 0))) ≡ suc a
      go true q h = h
      go false true h = h
      go false false h = let z : ◌≡◌ {A = ℕ} 0 1 = omega (arith, h) in omega arith

  -- the rest
  pub answer_last : turn_known k ≡ true → qubit_number m.given.n qs ≡ 0 → answer m w k qs records bad ≡ last_number m records bad
  unfolding answer turn_known qubit_number last_number
  answer_last e h = rw (le-ltb w m.given.size long, e) (go (some (leb m.given.n) qs) (twice qs) h)
    where
      go : (p q : Bool) → ◌≡◌ {A = ℕ} (cond p 4 (cond q 5 0)) 0
          → ◌≡◌ {A = ℕ} (cond p 4 (cond q 5 (cond (ltb m.given.capacity (length m.events + records)) 6 (cond bad 7 0)))) (cond (ltb m.given.capacity (length m.events + records)) 6 (cond bad 7 0))
      go true q h = let z : ◌≡◌ {A = ℕ} 0 1 = omega (arith, h) in omega arith
      go false true h = let z : ◌≡◌ {A = ℕ} 0 1 = omega (arith, h) in omega arith
      go false false h = refl

-- "6: the call records k events and events + k > E"
pub last_full : (m : State) (records : ℕ) (bad : Bool) → m.given.capacity < length m.events + records → last_number m records bad ≡ 6
unfolding last_number
last_full m records bad h = rw (lt-ltb m.given.capacity (length m.events + records) h) refl

-- "7: no such event, .."
pub last_named : (m : State) (records : ℕ) (bad : Bool) → length m.events + records ≤ m.given.capacity → last_number m records bad ≡ cond bad 7 0
unfolding last_number
last_named m records bad h = rw (le-ltb m.given.capacity (length m.events + records) h) refl

-- a call that records nothing and names no event, and whose turn is known: its qubits' number
pub numbered : (m : State) (s : List ℕ) (k : ℕ) (qs : List ℕ) → Stored m s → turn_known k ≡ true → answer m (length s) k qs 0 false ≡ qubit_number m.given.n qs
numbered m s k qs h e = go (qubit_number m.given.n qs) refl
  where
    go : (a : ℕ) → qubit_number m.given.n qs ≡ a → answer m (length s) k qs 0 false ≡ qubit_number m.given.n qs
    go zero d = answer_last m (length s) k qs 0 false h.long e d ∙ last_named m 0 false (omega (arith, h.history.room)) ∙ sym d
    go (suc a) d = answer_qubits m (length s) k qs 0 false h.long e a d ∙ sym d

pub qubit_small : (n : ℕ) (qs : List ℕ) → qubit_number n qs ≤ 5
unfolding qubit_number
qubit_small n qs = go (some (leb n) qs) (twice qs)
  where
    go : (a b : Bool) → cond a 4 (cond b 5 0) ≤ 5
    go true b = omega arith
    go false true = omega arith
    go false false = omega arith

-- ---- the number of a refusal

pub code_some : (e : Refusal) → 1 ≤ code_of e
code_some TooShort = omega arith
code_some NoSuchQubit = omega arith
code_some SameQubit = omega arith
code_some Full = omega arith
code_some NoSuchEvent = omega arith
code_some Turn = omega arith
code_some Corrupt = omega arith

pub code_few : (e : Refusal) → code_of e ≤ 9
code_few TooShort = omega arith
code_few NoSuchQubit = omega arith
code_few SameQubit = omega arith
code_few Full = omega arith
code_few NoSuchEvent = omega arith
code_few Turn = omega arith
code_few Corrupt = omega arith

pub look_few : (r : Result Look Refusal) → number (told_look r) ≤ 9
unfolding number told_look
look_few (Ok a) = omega arith
look_few (Err e) = code_few e
