-- What the promise of a call says on words that hold some state: 3, 8 and 9 do not come, the rest is the definition's, and when each refusal comes.
use mathlib.Core.Path.{◌≡◌, refl, sym, ap, ◌∙◌, subst}
use mathlib.Core.Logic.{◌≢◌}
use mathlib.Core.Bool.{Bool, true, false, cond, not, ◌||◌, true≢false}
use mathlib.Core.List.{List, [], ◌∷◌}
use Prim.Native.Nat.{ℕ, zero, suc, ◌+◌, ◌≤◌, ◌<◌}
use native.Mathlib.Omega.{arith}
use native.Mathlib.Bridge.{le_prop}
use lib.ListN.{length, get_or}
use lib.Dec.{eqb, ltb, leb}
use borrow.Author.Tests.{le-ltb, lt-ltb, ltb-true, leb-true, le-leb, leb-false, lt-leb, eq-eqb, eqb-false}
use Rattle.std.specs.Prelude.{Result, Ok, Err, OnOk, OnErr, IfOk, IsOk, IsErrOf, All, Any, ◌↔◌, IsTrue, IsFalse}
use Rattle.std.specs.Result.{ForErr}
use Rattle.std.proofs.Math.Logic.{∥∥₁_elim, ∥∥₁_map}
use Rattle.model.specs.Frame.{Kind, axis, paulis}
use Rattle.model.specs.Events.{State, some}
use Rattle.model.specs.Calls.{Call, Reading, reading, call_open, call_gate, call_turn, call_record, call_measure, call_reset, call_ccx, call_ccz, call_kill, call_read, call_clear, call_look, answer, answer_to, gate_qubits, not_readable, not_killable, twice, Reply, refused, accepted, recorded, says, looked, reply_of, reply, effect, call}
use Rattle.model.specs.Demands.{NotOut, Says}
use Rattle.model.specs.Search as model
use Rattle.model.specs.Search.{look}
use Rattle.model.proofs.Good.{Good-look}
use Rattle.model.proofs.Exact.{exact}
use Rattle.model.proofs.Enough.{never_out}
use Rattle.store.proofs.MeetLaws.{Reached-Good}
use Rattle.history.specs.declared.events.Rotation.{Rotation}
use Rattle.history.specs.declared.findings.Look as history
use Rattle.typed.specs.declared.ids.EventId.{EventId}
use Rattle.typed.specs.declared.looks.Found.{Found}
use Rattle.typed.specs.declared.looks.Found.TheVariants.{Partner, Nothing, Blocked, OutOfSteps}
use Rattle.typed.specs.declared.looks.Look.{Look}
use Rattle.typed.specs.Looks.{finding_of, plain_of, found_of, look_of, reading_of, FindsExactly, HasEnough}
use Rattle.store.specs.Stores.{Held, HeldTo}
use Rattle.store.specs.Promises.{number, turn_known, told_done, told_first, told_read, told_look, seen_of, Answers, Meets}
use Rattle.store.specs.Held.{IsStore, ForState, Gives, Does}
use Rattle.store.specs.declared.refusals.Refusal as wide
use Rattle.store.specs.declared.refusals.Refusal.TheVariants as wide_is
use Rattle.store.specs.Refusals as store
use Rattle.partner.proofs.Theorems.{reply-number}
use Rattle.typed.specs.declared.refusals.Refusal.{Refusal}
use Rattle.typed.specs.declared.refusals.Refusal.TheVariants.{NoSuchQubit, SameQubit, Full, NoSuchEvent}
use Rattle.typed.specs.declared.turns.Turn.{Turn}
use Rattle.typed.specs.declared.turns.Turn.TheVariants.{Zero, Quarter, Half, ThreeQuarters}
use Rattle.typed.specs.Turns.{eighths_of}
use Rattle.typed.specs.Refusals.{code_of, number_of, IsOnStore, LacksQubit, RepeatsQubit, LacksRoom}

-- ---- the tests of a call, in 01's order

-- which qubits the call names, its turn, how many events it records, and whether the event that it names is none that it can name
abbrev pub names : Call → List ℕ
names (call_open n E A form ws) = []
names (call_gate g) = gate_qubits g
names (call_turn kind k q) = q ∷ []
names (call_record kind q tag) = q ∷ []
names (call_measure q) = q ∷ []
names (call_reset q) = q ∷ []
names (call_ccx a b t) = a ∷ b ∷ t ∷ []
names (call_ccz a b t) = a ∷ b ∷ t ∷ []
names (call_kill id) = []
names (call_read id) = []
names call_clear = []
names (call_look kind q) = q ∷ []

abbrev pub records : Call → ℕ
records (call_open n E A form ws) = 0
records (call_gate g) = 0
records (call_turn kind k q) = 0
records (call_record kind q tag) = 1
records (call_measure q) = 1
records (call_reset q) = 2
records (call_ccx a b t) = 7
records (call_ccz a b t) = 7
records (call_kill id) = 0
records (call_read id) = 0
records call_clear = 0
records (call_look kind q) = 0

abbrev pub misses : Call → State → Bool
misses (call_open n E A form ws) m = false
misses (call_gate g) m = false
misses (call_turn kind k q) m = false
misses (call_record kind q tag) m = false
misses (call_measure q) m = false
misses (call_reset q) m = false
misses (call_ccx a b t) m = false
misses (call_ccz a b t) m = false
misses (call_kill id) m = not_killable m.events id
misses (call_read id) m = not_readable m.events id
misses call_clear m = false
misses (call_look kind q) m = false

-- a call of a store: no opening, and its turn, if it has one, is known
abbrev pub IsOfStore : Call → Type 0
IsOfStore (call_open n E A form ws) = ⊥
IsOfStore (call_gate g) = Unit {0}
IsOfStore (call_turn kind k q) = turn_known k ≡ true
IsOfStore (call_record kind q tag) = Unit {0}
IsOfStore (call_measure q) = Unit {0}
IsOfStore (call_reset q) = Unit {0}
IsOfStore (call_ccx a b t) = Unit {0}
IsOfStore (call_ccz a b t) = Unit {0}
IsOfStore (call_kill id) = Unit {0}
IsOfStore (call_read id) = Unit {0}
IsOfStore call_clear = Unit {0}
IsOfStore (call_look kind q) = Unit {0}

-- 01's order behind 3 and 8: "4; 5; 6 or 7"
abbrev pub chain : (lacks repeats full misses : Bool) → ℕ
chain b c d e = cond b 4 (cond c 5 (cond d 6 (cond e 7 0)))

abbrev pub tested : Call → State → ℕ
tested c m = chain (some (leb m.given.n) (names c)) (twice (names c)) (ltb m.given.capacity (length m.events + records c)) (misses c m)

answer_tested : (m : State) (w k : ℕ) (qs : List ℕ) (more : ℕ) (bad : Bool) → turn_known k ≡ true → m.given.size ≤ w
    → answer m w k qs more bad ≡ chain (some (leb m.given.n) qs) (twice qs) (ltb m.given.capacity (length m.events + more)) bad
unfolding answer turn_known
answer_tested m w k qs more bad turn long = rw (le-ltb w m.given.size long, turn) refl

-- a store holds no full room: a call that records nothing is never refused for it, but the definition tests it alike
pub answer_is : (c : Call) (w : ℕ) (m : State) → IsOfStore c → m.given.size ≤ w → answer_to c w m ≡ tested c m
unfolding answer_to
answer_is (call_open n E A form ws) w m k long = absurd k
answer_is (call_gate g) w m k long = answer_tested m w 0 _ 0 false (unfold turn_known in refl) long
answer_is (call_turn kind by q) w m k long = answer_tested m w by _ 0 false k long
answer_is (call_record kind q tag) w m k long = answer_tested m w 0 _ 1 false (unfold turn_known in refl) long
answer_is (call_measure q) w m k long = answer_tested m w 0 _ 1 false (unfold turn_known in refl) long
answer_is (call_reset q) w m k long = answer_tested m w 0 _ 2 false (unfold turn_known in refl) long
answer_is (call_ccx a b t) w m k long = answer_tested m w 0 _ 7 false (unfold turn_known in refl) long
answer_is (call_ccz a b t) w m k long = answer_tested m w 0 _ 7 false (unfold turn_known in refl) long
answer_is (call_kill id) w m k long = answer_tested m w 0 [] 0 _ (unfold turn_known in refl) long
answer_is (call_read id) w m k long = answer_tested m w 0 [] 0 _ (unfold turn_known in refl) long
answer_is call_clear w m k long = answer_tested m w 0 [] 0 false (unfold turn_known in refl) long
answer_is (call_look kind q) w m k long = answer_tested m w 0 _ 0 false (unfold turn_known in refl) long

-- ---- the numbers of the chain

chain_range : (b c d e : Bool) → 1 ≤ chain b c d e → (4 ≤ chain b c d e) × (chain b c d e ≤ 7)
chain_range true c d e h = (omega arith, omega arith)
chain_range false true d e h = (omega arith, omega arith)
chain_range false false true e h = (omega arith, omega arith)
chain_range false false false true h = (omega arith, omega arith)
chain_range false false false false h = absurd (omega arith)

chain_four : (b c d e : Bool) → (chain b c d e ≡ 4) ↔ (b ≡ true)
chain_four true c d e = ((λ h. refl), (λ h. refl))
chain_four false true d e = ((λ h. absurd (omega arith)), (λ h. cc))
chain_four false false true e = ((λ h. absurd (omega arith)), (λ h. cc))
chain_four false false false true = ((λ h. absurd (omega arith)), (λ h. cc))
chain_four false false false false = ((λ h. absurd (omega arith)), (λ h. cc))

chain_five : (b c d e : Bool) → (chain b c d e ≡ 5) ↔ ((b ≡ false) × (c ≡ true))
chain_five true c d e = ((λ h. absurd (omega arith)), (λ h. absurd (true≢false h.0)))
chain_five false true d e = ((λ h. (refl, refl)), (λ h. refl))
chain_five false false true e = ((λ h. absurd (omega arith)), (λ h. absurd (true≢false (sym h.1))))
chain_five false false false true = ((λ h. absurd (omega arith)), (λ h. absurd (true≢false (sym h.1))))
chain_five false false false false = ((λ h. absurd (omega arith)), (λ h. absurd (true≢false (sym h.1))))

chain_six : (b c d e : Bool) → (chain b c d e ≡ 6) ↔ ((b ≡ false) × (c ≡ false) × (d ≡ true))
chain_six true c d e = ((λ h. absurd (omega arith)), (λ h. absurd (true≢false h.0)))
chain_six false true d e = ((λ h. absurd (omega arith)), (λ h. absurd (true≢false h.1)))
chain_six false false true e = ((λ h. (refl, refl, refl)), (λ h. refl))
chain_six false false false true = ((λ h. absurd (omega arith)), (λ h. absurd (true≢false (sym h.2))))
chain_six false false false false = ((λ h. absurd (omega arith)), (λ h. absurd (true≢false (sym h.2))))

chain_seven : (b c d e : Bool) → b ≡ false → c ≡ false → d ≡ false → (chain b c d e ≡ 7) ↔ (e ≡ true)
chain_seven b c d true p q r = rw (p, q, r) ((λ h. refl), (λ h. refl))
chain_seven b c d false p q r = rw (p, q, r) ((λ h. absurd (omega arith)), (λ h. absurd (true≢false (sym h))))

-- ---- the tests as facts

some_cons : (n q : ℕ) (qs : List ℕ) (b : Bool) → leb n q ≡ b → some (leb n) (q ∷ qs) ≡ cond b true (some (leb n) qs)
unfolding some
some_cons n q qs b e = rw e refl

lacks_to : (n : ℕ) (qs : List ℕ) → some (leb n) qs ≡ true → Any (λ q. n ≤ q) qs
unfolding some
lacks_to n [] h = absurd (true≢false (sym h))
lacks_to n (q ∷ qs) h = go (leb n q) refl (λ e. lacks_to n qs (sym (some_cons n q qs false e) ∙ h))
  where
    go : (b : Bool) → leb n q ≡ b → (leb n q ≡ false → Any (λ q. n ≤ q) qs) → Any (λ q. n ≤ q) (q ∷ qs)
    go true e rest = (0, q, omega arith, refl, leb-true n q e)
    go false e rest = let a = rest e in (suc a.0, a.1, omega (arith, a.2), a.3, a.4)

lacks_from : (n : ℕ) (qs : List ℕ) (k x : ℕ) → k < length qs → get_or qs k x ≡ x → n ≤ x → some (leb n) qs ≡ true
unfolding some
lacks_from n [] k x lt e p = absurd (omega arith)
lacks_from n (q ∷ qs) zero x lt e p = some_cons n q qs true (le-leb n q (omega arith))
lacks_from n (q ∷ qs) (suc k) x lt e p = go (leb n q) refl (lacks_from n qs k x (omega arith) e p)
  where
    go : (b : Bool) → leb n q ≡ b → some (leb n) qs ≡ true → some (leb n) (q ∷ qs) ≡ true
    go true e' rest = some_cons n q qs true e'
    go false e' rest = some_cons n q qs false e' ∙ rest

lacks : (n : ℕ) (qs : List ℕ) → (some (leb n) qs ≡ true) ↔ Any (λ q. n ≤ q) qs
lacks n qs = (lacks_to n qs, λ h. lacks_from n qs h.0 h.1 h.2 h.3 h.4)

has_to : (n : ℕ) (qs : List ℕ) → some (leb n) qs ≡ false → All (λ q. q < n) qs
unfolding some
has_to n [] h k d lt = absurd (omega arith)
has_to n (q ∷ qs) h k d lt = go (leb n q) refl (λ e. has_to n qs (sym (some_cons n q qs false e) ∙ h)) k lt
  where
    go : (b : Bool) → leb n q ≡ b → (leb n q ≡ false → All (λ q. q < n) qs) → (k : ℕ) → k < length (q ∷ qs) → get_or (q ∷ qs) k d < n
    go true e rest k lt = absurd (true≢false (sym (some_cons n q qs true e) ∙ h))
    go false e rest zero lt = leb-false n q e
    go false e rest (suc k) lt = rest e k d (omega arith)

has_from : (n : ℕ) (qs : List ℕ) → All (λ q. q < n) qs → some (leb n) qs ≡ false
unfolding some
has_from n [] h = refl
has_from n (q ∷ qs) h = some_cons n q qs false (lt-leb n q (h 0 0 (omega arith))) ∙ has_from n qs (λ k d lt. h (suc k) d (omega arith))

has : (n : ℕ) (qs : List ℕ) → (some (leb n) qs ≡ false) ↔ All (λ q. q < n) qs
has n qs = (has_to n qs, has_from n qs)

the_one : (n q : ℕ) → Any (λ x. n ≤ x) (q ∷ []) → n ≤ q
the_one n q h = go h.0 h.1 h.2 h.3 h.4
  where
    go : (k x : ℕ) → k < 1 → get_or (q ∷ []) k x ≡ x → n ≤ x → n ≤ q
    go zero x lt e p = omega arith
    go (suc k) x lt e p = absurd (omega arith)

only_one : (n q k d : ℕ) → k < 1 → q < n → get_or (q ∷ []) k d < n
only_one n q zero d lt h = h
only_one n q (suc k) d lt h = absurd (omega arith)

twice_one : (q : ℕ) → twice (q ∷ []) ≡ false
unfolding twice some
twice_one q = refl

twice_none : twice [] ≡ false
unfolding twice
twice_none = refl

some_none : (n : ℕ) → some (leb n) [] ≡ false
unfolding some
some_none n = refl

-- ---- refusals and their numbers

abbrev refusal_at : ℕ → Refusal
refusal_at k = cond (eqb k 4) NoSuchQubit (cond (eqb k 5) SameQubit (cond (eqb k 6) Full NoSuchEvent))

at_code : (e : Refusal) → refusal_at (code_of e) ≡ e
at_code NoSuchQubit = refl
at_code SameQubit = refl
at_code Full = refl
at_code NoSuchEvent = refl

pub code_some : (e : Refusal) → 4 ≤ code_of e
code_some NoSuchQubit = omega arith
code_some SameQubit = omega arith
code_some Full = omega arith
code_some NoSuchEvent = omega arith

err_is : {A : Type 0} (x : Result A Refusal) (e : Refusal) → (number_of x ≡ code_of e) ↔ IsErrOf x e
err_is (Ok v) e = ((λ h. absurd (omega (arith, code_some e, h))), (λ h. cc))
err_is (Err d) e = ((λ h. ap Err (sym (at_code d) ∙ ap refusal_at h ∙ at_code e)), (λ h. ap number_of h))

wide_some : (e : wide.Refusal) → 3 ≤ store.code_of e
wide_some wide_is.TooShort = omega arith
wide_some wide_is.NoSuchQubit = omega arith
wide_some wide_is.SameQubit = omega arith
wide_some wide_is.Full = omega arith
wide_some wide_is.NoSuchEvent = omega arith
wide_some wide_is.Turn = omega arith
wide_some wide_is.Corrupt = omega arith

pub number_done : (x : Result Unit wide.Refusal) → store.number_of x ≡ number (told_done x)
unfolding number
number_done (Ok u) = refl
number_done (Err e) = refl

pub number_first : (x : Result ℕ wide.Refusal) → store.number_of x ≡ number (told_first x)
unfolding number
number_first (Ok id) = refl
number_first (Err e) = refl

-- ---- a call on a store

module _ (c : Call) (s : List ℕ) (r : Reply) (p : Answers c s r) where
  -- the number given back is the definition's
  pub gives : Gives c s (number r)
  gives m h = sym (ap number (p.meaning m h) ∙ reply-number c (length s) m)

  pub answers : {A : Type 0} (x : Result A Refusal) → number_of x ≡ number r → Gives c s (number_of x)
  answers x e m h = gives m h ∙ sym e

  -- 3, 8 and 9 do not come
  pub ranged : IsStore s → IsOfStore c → 1 ≤ number r → (4 ≤ number r) × (number r ≤ 7)
  ranged i k one =
      ∥∥₁_elim i (λ a b j. (le_prop a.0 b.0 j, le_prop a.1 b.1 j))
      (λ h. let e : number r ≡ tested c h.0 = sym (gives h.0 h.1) ∙ answer_is c (length s) h.0 k h.1.stored.long in
      subst (λ (x : ℕ). (4 ≤ x) × (x ≤ 7)) (sym e) (chain_range _ _ _ _ (subst (λ (x : ℕ). 1 ≤ x) e one)))

  pub narrow : {A : Type 0} → IsStore s → IsOfStore c → (x : Result A wide.Refusal) → store.number_of x ≡ number r → ForErr x IsOnStore
  narrow i k x e d q =
      let n : store.code_of d ≡ number r = sym (ap store.number_of q) ∙ e in
      subst (λ (y : ℕ). (4 ≤ y) × (y ≤ 7)) (sym n) (ranged i k (omega (arith, n, wide_some d)))

  -- an answer that is no refusal is the definition's
  pub value : number r ≡ 0 → ForState s (λ m. r ≡ reply_of c m)
  unfolding reply
  value z m h =
      let e : answer_to c (length s) m ≡ 0 = gives m h ∙ z in
      p.meaning m h ∙ ap (λ (x : Bool). cond x (reply_of c m) (refused (answer_to c (length s) m))) (eq-eqb (answer_to c (length s) m) 0 e)

module _ (c : Call) (s : List ℕ) (r : Reply) (t : List ℕ) (p : Meets c s r t) where
  pub kept : IsStore s → IsStore t
  kept i = ∥∥₁_map i (λ h. (call c (length s) h.0, (p.becomes h.0 h.1).held))

  untouched : IsStore s → IsOfStore c → 1 ≤ number r → t ≡ s
  untouched i k one = p.untouched one (let h = ranged c s r p.answers i k one in omega (arith, h.1))

  does : number r ≡ 0 → Does c s t
  unfolding call
  does z m h =
      let e : answer_to c (length s) m ≡ 0 = gives c s r p.answers m h ∙ z in
      subst (λ (x : Bool). HeldTo (cond x (effect c (length s) m) m) s t) (eq-eqb (answer_to c (length s) m) 0 e) (p.becomes m h)

  -- where the result x has the reply's number
  pub done : {A : Type 0} (x : Result A Refusal) → number_of x ≡ number r → OnOk x (Does c s t)
  done (Ok v) e = does (sym e)
  done (Err d) e = tt

  pub refusing : IsStore s → IsOfStore c → {A : Type 0} (x : Result A Refusal) → number_of x ≡ number r → OnErr x (t ≡ s)
  refusing i k (Ok v) e = tt
  refusing i k (Err d) e = untouched i k (omega (arith, code_some d, e))

-- ---- when each refusal comes

module _ {A : Type 0} (c : Call) (s : List ℕ) (x : Result A Refusal) (k : IsOfStore c) (g : Gives c s (number_of x)) where
  number_tested : (m : State) → Held m s → number_of x ≡ tested c m
  number_tested m h = sym (g m h) ∙ answer_is c (length s) m k h.stored.long

  pub no_qubit : ForState s (λ m. IsErrOf x NoSuchQubit ↔ LacksQubit (names c) m)
  no_qubit m h =
      let f = chain_four (some (leb m.given.n) (names c)) (twice (names c)) (ltb m.given.capacity (length m.events + records c)) (misses c m) in
      let l = lacks m.given.n (names c) in
      let t = number_tested m h in
      let e = err_is x NoSuchQubit in
      ((λ q. l.0 (f.0 (sym t ∙ e.1 q))), (λ q. e.0 (t ∙ f.1 (l.1 q))))

  pub twice_named : ForState s (λ m. IsErrOf x SameQubit ↔ RepeatsQubit (names c) m)
  twice_named m h =
      let f = chain_five (some (leb m.given.n) (names c)) (twice (names c)) (ltb m.given.capacity (length m.events + records c)) (misses c m) in
      let l = has m.given.n (names c) in
      let t = number_tested m h in
      let e = err_is x SameQubit in
      ((λ q. let z = f.0 (sym t ∙ e.1 q) in (l.0 z.0, z.1)), (λ q. e.0 (t ∙ f.1 (l.1 q.0, q.1))))

  pub no_room : ForState s (λ m. IsErrOf x Full ↔ LacksRoom (names c) (records c) m)
  no_room m h =
      let f = chain_six (some (leb m.given.n) (names c)) (twice (names c)) (ltb m.given.capacity (length m.events + records c)) (misses c m) in
      let l = has m.given.n (names c) in
      let t = number_tested m h in
      let e = err_is x Full in
      ((λ q. let z = f.0 (sym t ∙ e.1 q) in (l.0 z.0, z.1, ltb-true _ _ z.2)), (λ q. e.0 (t ∙ f.1 (l.1 q.0, q.1, lt-ltb _ _ q.2))))

  -- of a call that names one qubit
  pub no_such : (q : ℕ) → names c ≡ q ∷ [] → ForState s (λ m. IsErrOf x NoSuchQubit ↔ (m.given.n ≤ q))
  no_such q one m h =
      let e = subst (λ (qs : List ℕ). IsErrOf x NoSuchQubit ↔ LacksQubit qs m) one (no_qubit m h) in
      ((λ z. the_one m.given.n q (e.0 z)), (λ z. e.1 (0, q, omega arith, refl, z)))

  pub full : (q : ℕ) → names c ≡ q ∷ [] → ForState s (λ m. IsErrOf x Full ↔ ((q < m.given.n) × (m.given.capacity < length m.events + records c)))
  full q one m h =
      let e = subst (λ (qs : List ℕ). IsErrOf x Full ↔ LacksRoom qs (records c) m) one (no_room m h) in
      ((λ z. let a = e.0 z in (a.0 0 0 (omega arith), a.2)), (λ z. e.1 ((λ k d lt. only_one m.given.n q k d lt z.0), twice_one q, z.1)))

  -- of a call that names an event
  pub no_event : names c ≡ [] → records c ≡ 0 → ForState s (λ m. IsErrOf x NoSuchEvent ↔ IsTrue (misses c m))
  no_event none still m h =
      let t = number_tested m h in
      let e = err_is x NoSuchEvent in
      let room : m.given.capacity < length m.events + records c → ⊥ = λ lt. omega (arith, h.stored.history.room) in
      let f = chain_seven (some (leb m.given.n) (names c)) (twice (names c)) (ltb m.given.capacity (length m.events + records c)) (misses c m)
      (ap (some (leb m.given.n)) none ∙ some_none m.given.n) (ap twice none ∙ twice_none) (le-ltb _ _ (omega (arith, h.stored.history.room))) in
      ((λ q. f.0 (sym t ∙ e.1 q)), (λ q. e.0 (t ∙ f.1 q)))

-- ---- one call each

-- a turn, as the code hands it on
pub turn_at : {kind : Kind} {j k q : ℕ} {s : List ℕ} {r : Reply} {t : List ℕ} → j ≡ k → Meets (call_turn kind j q) s r t → Meets (call_turn kind k q) s r t
turn_at {kind} {j} {k} {q} {s} {r} {t} e p = subst (λ (x : ℕ). Meets (call_turn kind x q) s r t) e p

pub eighths_known : (turn : Turn) → turn_known (eighths_of turn) ≡ true
unfolding turn_known
eighths_known Zero = refl
eighths_known Quarter = refl
eighths_known Half = refl
eighths_known ThreeQuarters = refl

-- a clear is never refused
clear_none : (s : List ℕ) (r : Reply) → Answers call_clear s r → IsStore s → number r ≤ 0
clear_none s r p i =
    ∥∥₁_elim i (λ a b. le_prop a b)
    (λ h.
    let e : number r ≡ 0 =
    sym (gives call_clear s r p h.0 h.1)
    ∙ answer_is call_clear (length s) h.0 tt h.1.stored.long
    ∙ rw (some_none h.0.given.n, twice_none, le-ltb h.0.given.capacity (length h.0.events + 0) (omega (arith, h.1.stored.history.room))) refl in
    omega arith)

pub clear_ok : (s : List ℕ) (x : Result Unit wide.Refusal) → Answers call_clear s (told_done x) → IsStore s → IsOk x
clear_ok s (Ok u) p i = refl
clear_ok s (Err e) p i = absurd (omega (arith, clear_none s (told_done (Err e)) p i, number_done (Err e), wide_some e))

pub clear_does : (s : List ℕ) (r : Reply) (t : List ℕ) → Meets call_clear s r t → IsStore s → Does call_clear s t
clear_does s r t p i = does call_clear s r t p (omega (arith, clear_none s r p.answers i))

-- a recorded event is the next
next_is : (c : Call) (s : List ℕ) (x : Result ℕ wide.Refusal) → ((m : State) → reply_of c m ≡ recorded (length m.events)) → Answers c s (told_first x)
    → (id : ℕ) → x ≡ Ok id → ForState s (λ m. id ≡ length m.events)
next_is c s x says_next p id e m h =
    same (sym (ap told_first e) ∙ value c s (told_first x) p (sym (number_first x) ∙ ap store.number_of e) m h ∙ says_next m)
  where
    same : {a b : ℕ} → recorded a ≡ recorded b → a ≡ b
    same q = cc

pub recorded_next : (c : Call) (s : List ℕ) (x : Result ℕ wide.Refusal) → ((m : State) → reply_of c m ≡ recorded (length m.events)) → Answers c s (told_first x)
    → (y : Result EventId Refusal) → IfOk y (λ id. x ≡ Ok id.0) → IfOk y (λ id. ForState s (λ m. id.0 ≡ length m.events))
recorded_next c s x says_next p (Ok id) e = next_is c s x says_next p id.0 e
recorded_next c s x says_next p (Err d) e = tt

-- ---- the clauses of a method: from the promise of the call c, lent the words s, which gave back x and left t, and the method's result y

module _ {A : Type 0} (c : Call) (s : List ℕ) (x : Result A wide.Refusal) (r : Reply) (t : List ℕ) where
  pub can_come : Meets c s r t → IsStore s → IsOfStore c → store.number_of x ≡ number r → ForErr x IsOnStore
  can_come p i k n = narrow c s r p.answers i k x n

  module _ {B : Type 0} (y : Result B Refusal) where
    pub is_answer : Meets c s r t → store.number_of x ≡ number r → number_of y ≡ store.number_of x → Gives c s (number_of y)
    is_answer p n e = answers c s r p.answers y (e ∙ n)

    pub is_done : Meets c s r t → store.number_of x ≡ number r → number_of y ≡ store.number_of x → OnOk y (Does c s t)
    is_done p n e = done c s r t p y (e ∙ n)

    pub is_refused : Meets c s r t → IsStore s → IsOfStore c → store.number_of x ≡ number r → number_of y ≡ store.number_of x → OnErr y (t ≡ s)
    is_refused p i k n e = refusing c s r t p i k y (e ∙ n)

    pub is_no_qubit : Meets c s r t → IsOfStore c → store.number_of x ≡ number r → number_of y ≡ store.number_of x
        → ForState s (λ m. IsErrOf y NoSuchQubit ↔ LacksQubit (names c) m)
    is_no_qubit p k n e = no_qubit c s y k (is_answer p n e)

    pub is_same_qubit : Meets c s r t → IsOfStore c → store.number_of x ≡ number r → number_of y ≡ store.number_of x
        → ForState s (λ m. IsErrOf y SameQubit ↔ RepeatsQubit (names c) m)
    is_same_qubit p k n e = twice_named c s y k (is_answer p n e)

    pub is_full : Meets c s r t → IsOfStore c → store.number_of x ≡ number r → number_of y ≡ store.number_of x
        → ForState s (λ m. IsErrOf y Full ↔ LacksRoom (names c) (records c) m)
    is_full p k n e = no_room c s y k (is_answer p n e)

    module _ (q : ℕ) where
      pub is_no_such : Meets c s r t → IsOfStore c → store.number_of x ≡ number r → number_of y ≡ store.number_of x → names c ≡ q ∷ []
          → ForState s (λ m. IsErrOf y NoSuchQubit ↔ (m.given.n ≤ q))
      is_no_such p k n e one = no_such c s y k (is_answer p n e) q one

      pub is_no_room : (more : ℕ) → Meets c s r t → IsOfStore c → store.number_of x ≡ number r → number_of y ≡ store.number_of x → names c ≡ q ∷ [] → records c ≡ more
          → ForState s (λ m. IsErrOf y Full ↔ ((q < m.given.n) × (m.given.capacity < length m.events + more)))
      is_no_room more p k n e one f =
          subst (λ (a : ℕ). ForState s (λ m. IsErrOf y Full ↔ ((q < m.given.n) × (m.given.capacity < length m.events + a)))) f (full c s y k (is_answer p n e) q one)

    pub is_no_event : Meets c s r t → IsOfStore c → store.number_of x ≡ number r → number_of y ≡ store.number_of x → names c ≡ [] → records c ≡ 0
        → ForState s (λ m. IsErrOf y NoSuchEvent ↔ IsTrue (misses c m))
    is_no_event p k n e none still = no_event c s y k (is_answer p n e) none still

pub is_next : (c : Call) (s : List ℕ) (x : Result ℕ wide.Refusal) (t : List ℕ) (y : Result EventId Refusal) → Meets c s (told_first x) t
    → ((m : State) → reply_of c m ≡ recorded (length m.events)) → IfOk y (λ id. x ≡ Ok id.0) → IfOk y (λ id. ForState s (λ m. id.0 ≡ length m.events))
is_next c s x t y p n e = recorded_next c s x n p.answers y e

-- ---- the clauses of a read and a look, whose number is the reply's

pub number_read : (x : Result Rotation wide.Refusal) → store.number_of x ≡ number (told_read x)
unfolding number told_read
number_read (Ok v) = refl
number_read (Err e) = refl

pub number_look : (x : Result history.Look wide.Refusal) → store.number_of x ≡ number (told_look x)
unfolding number told_look
number_look (Ok a) = refl
number_look (Err e) = refl

-- what a read and a look say, of the value that the method gives
pub read_says : (x : Result Rotation wide.Refusal) (y : Result Rotation Refusal) → IfOk y (λ v. x ≡ Ok v) → IfOk y (λ v. told_read x ≡ says (reading_of v))
unfolding told_read
read_says x (Ok v) e = ap told_read e
read_says x (Err d) e = tt

seen_found : (f : Found) (steps : ℕ) → seen_of (finding_of f) steps ≡ found_of f steps
unfolding seen_of
seen_found (Partner id sign) steps = refl
seen_found Nothing steps = refl
seen_found Blocked steps = refl
seen_found OutOfSteps steps = refl

pub look_says : (x : Result history.Look wide.Refusal) (y : Result Look Refusal) → IfOk y (λ a. x ≡ Ok (plain_of a)) → IfOk y (λ a. told_look x ≡ looked (look_of a))
unfolding told_look
look_says x (Ok a) e = ap told_look e ∙ ap looked (seen_found a.found a.steps)
look_says x (Err d) e = tt

module _ (c : Call) (s : List ℕ) (r : Reply) (p : Answers c s r) where
  module _ {B : Type 0} (y : Result B Refusal) (e : number_of y ≡ number r) where
    pub said_no_such : (q : ℕ) → IsOfStore c → names c ≡ q ∷ [] → ForState s (λ m. IsErrOf y NoSuchQubit ↔ (m.given.n ≤ q))
    said_no_such q k one = no_such c s y k (answers c s r p y e) q one

    pub said_no_event : IsOfStore c → names c ≡ [] → records c ≡ 0 → ForState s (λ m. IsErrOf y NoSuchEvent ↔ IsTrue (misses c m))
    said_no_event k none still = no_event c s y k (answers c s r p y e) none still

pub read_is : (id : ℕ) (s : List ℕ) (r : Reply) → Answers (call_read id) s r → (y : Result Rotation Refusal) → number_of y ≡ number r
    → IfOk y (λ v. r ≡ says (reading_of v)) → IfOk y (λ v. ForState s (λ m. reading_of v ≡ reading m.events id))
unfolding reply_of
read_is id s r p (Ok v) e f = λ m h. says_one (sym f ∙ value (call_read id) s r p (sym e) m h)
  where
    says_one : {a b : Reading} → says a ≡ says b → a ≡ b
    says_one q = cc
read_is id s r p (Err d) e f = tt

not_out : (f : Found) (steps : ℕ) → f ≢ OutOfSteps → NotOut (found_of f steps)
not_out (Partner id sign) steps n = tt
not_out Nothing steps n = tt
not_out Blocked steps n = tt
not_out OutOfSteps steps n = absurd (n refl)

module _ (kind : Kind) (q : ℕ) (s : List ℕ) (r : Reply) (p : Answers (call_look kind q) s r) where
  one_look : (a : Look) → 0 ≡ number r → r ≡ looked (look_of a) → ForState s (λ m. look_of a ≡ look kind q m)
  unfolding reply_of
  one_look a z f m h = looked_one (sym f ∙ value (call_look kind q) s r p (sym z) m h)
    where
      looked_one : {a b : model.Look} → looked a ≡ looked b → a ≡ b
      looked_one t = cc

  pub look_is : (y : Result Look Refusal) → number_of y ≡ number r → IfOk y (λ a. r ≡ looked (look_of a)) → IfOk y (λ a. ForState s (λ m. look_of a ≡ look kind q m))
  look_is (Ok a) e f = one_look a e f
  look_is (Err d) e f = tt

  pub look_exactly : (y : Result Look Refusal) → number_of y ≡ number r → IfOk y (λ a. r ≡ looked (look_of a)) → IfOk y (λ a. ForState s (FindsExactly kind q a))
  look_exactly (Ok a) e f = λ m h n.
      let says : Says m (axis paulis kind q m.frame) (look kind q m) = Good-look m (Reached-Good m h.reached) kind q in
      exact m (axis paulis kind q m.frame) (look_of a) (subst (λ (x : model.Look). Says m (axis paulis kind q m.frame) x) (sym (one_look a e f m h)) says) (not_out a.found a.steps n)
  look_exactly (Err d) e f = tt

  pub look_enough : (y : Result Look Refusal) → number_of y ≡ number r → IfOk y (λ a. r ≡ looked (look_of a))
      → IfOk y (λ a. ForState s (λ m. HasEnough m → a.found ≢ OutOfSteps))
  look_enough (Ok a) e f = λ m h big out.
      let in_steps : NotOut (look kind q m) = never_out m (Reached-Good m h.reached) big.few big.steps kind q in
      subst (λ (x : Found). NotOut (found_of x a.steps)) out (subst (λ (x : model.Look). NotOut x) (sym (one_look a e f m h)) in_steps)
  look_enough (Err d) e f = tt

pub ruleset laws = (number_done, number_first, kept, can_come, is_answer, is_done, is_refused, is_no_qubit, is_same_qubit, is_full, is_no_such, is_no_room, is_no_event, is_next)
