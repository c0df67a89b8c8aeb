-- The theorems about all calls (docs/PROMISES.md). A call is what its contract says of it (`Step` of specs/Runs.antt): the functions of src/calls.rt are
-- proved to meet these contracts. Assumes nothing.
use mathlib.Core.Path.{◌≡◌, refl, sym, ap, ap₂, ◌∙◌, subst}
use mathlib.Core.Logic.{◌≢◌, inl, inr, ⊎_elim}
use mathlib.Core.Bool.{Bool, true, false, cond, not, ◌||◌, true≢false}
use mathlib.Core.List.{List, [], ◌∷◌, ◌++◌}
use Prim.Native.Nat.{ℕ, ◌+◌, ◌*◌, ◌^◌, ◌≤◌, ◌<◌}
use native.Mathlib.Omega.{arith}
use native.Mathlib.Decide.{ℕ_discrete, dec_lt}
use lib.ListN.{length, get_or, take, drop, take-append-drop, get_or-eq_default}
use lib.Seq.{length-take-le, get_or-take}
use lib.Dec.{eqb, ltb, leb}
use borrow.Author.Tests.{eq-eqb, ne_eqb, eqb-true}
use Rattle.model.specs.Frame.{Kind, axis, paulis}
use Rattle.model.specs.Events.{Form, Opening, State, words, plane, dead, keep, some}
use Rattle.model.specs.Search.{Look, found, none, blocked, out, look, list_at}
use Rattle.model.specs.Store.{need, list_count}
use Rattle.model.specs.Calls.{Call, call_open, call_gate, call_turn, call_record, call_measure, call_reset, call_ccx, call_ccz, call_kill, call_read, call_clear, call_look, Lent, is_too_wide, open_number, open_answer, opened, opening, answer, answer_to, twice, Reply, refused, accepted, looked, reply_of, reply, effect, call, calls, replies}
use Rattle.model.specs.Demands.{Mem, Share, occurs, Listed, NotOut, Says, SameReplies, is_opening}
use Rattle.model.proofs.Good.{Good, Good-look}
use Rattle.model.proofs.Kept.{listed}
use Rattle.model.proofs.Exact.{exact}
use Rattle.model.proofs.Enough.{never_out}
use Rattle.model.proofs.Theorems.{refusal_changes_nothing, look_changes_nothing, read_changes_nothing, two_openings}
use Rattle.history.proofs.Theorems.{lists_in_words}
use Rattle.store.specs.Stores.{Held, HeldTo}
use Rattle.store.specs.Promises.{number, turn_known, Answers, Meets, Opens}
use Rattle.store.specs.Checks.{TooShort}
use Rattle.store.proofs.QubitLaws.{single_in}
use Rattle.store.proofs.AnswerLaws.{numbered}
use Rattle.store.proofs.MeetLaws.{Reached-Good}
use Rattle.partner.specs.Runs.{Step, Runs, Since, Fits64, list_of, DemandThree}
use Rattle.partner.proofs.Lending.{Stored-below, prefix_below, more_below, short_three}
use Rattle.partner.proofs.OneStore.{HeldTo-one}

-- ---- one call

-- a read and a look leave the state
still_Meets : (c : Call) (s : List ℕ) (r : Reply) (t : List ℕ) → ((w : ℕ) (m : State) → call c w m ≡ m) → Answers c s r → t ≡ s → Meets c s r t
still_Meets c s r t same h e = record {
  answers = h;
  untouched = λ a b. e;
  same_length = ap length e;
  becomes = λ m q.
      subst (λ (x : State). HeldTo x s t) (sym (same (length s) m))
      (subst (λ (x : List ℕ). HeldTo m s x) (sym e) (record { held = q; only = record { same_length = refl; kept = λ k u. refl } }));
}

-- every call but an opening, in one form
pub Step-Meets : (c : Call) (s : List ℕ) (r : Reply) (t : List ℕ) → is_opening c ≡ false → Step c s r t → Meets c s r t
unfolding is_opening
Step-Meets (call_open n E A form ws) s r t e h = absurd (true≢false e)
Step-Meets (call_gate g) s r t e h = h
Step-Meets (call_turn kind k q) s r t e h = h
Step-Meets (call_record kind q tag) s r t e h = h
Step-Meets (call_measure q) s r t e h = h
Step-Meets (call_reset q) s r t e h = h
Step-Meets (call_ccx a b c) s r t e h = h
Step-Meets (call_ccz a b c) s r t e h = h
Step-Meets (call_kill id) s r t e h = h
Step-Meets call_clear s r t e h = h
Step-Meets (call_read id) s r t e h = still_Meets (call_read id) s r t (λ w m. read_changes_nothing id w m) h.0 h.1
Step-Meets (call_look kind q) s r t e h = still_Meets (call_look kind q) s r t (λ w m. look_changes_nothing kind q w m) h.0 h.1

-- the caller's words, of which the first w were lent and came back as t
abbrev Back : (w : ℕ) → List ℕ → List ℕ → List ℕ
Back w b t = t ++ drop w b

lent_back : (w : ℕ) (b t : List ℕ) → t ≡ take w b → Back w b t ≡ b
lent_back w b t e = ap (λ (x : List ℕ). x ++ drop w b) e ∙ take-append-drop w b

-- what a call leaves is held in the caller's words
held_back : (m : State) (w : ℕ) (b t : List ℕ) → Held m t → Held m (Back w b t)
held_back m w b t h = record {
  reached = h.reached;
  stored = Stored-below m (length t) t (Back w b t) h.stored.long (omega arith) (more_below t (drop w b)) h.stored;
}

-- what one call does to the caller's words
pub record Answered (c : Call) (w : ℕ) (m : State) (r : Reply) (e : List ℕ) : Type 0 where
  pub says : r ≡ reply c w m
  pub held : Held (call c w m) e

refused_three : (c : Call) (w : ℕ) (m : State) → answer_to c w m ≡ 3 → (refused 3 ≡ reply c w m) × (m ≡ call c w m)
unfolding reply
refused_three c w m e = (rw e refl, sym (refusal_changes_nothing c w m (λ q. omega (arith, e, q))))

-- a call but an opening, lent the first w words of a store that holds m
call_on : (c : Call) (w : ℕ) (m : State) (b : List ℕ) (r : Reply) (t : List ℕ) → is_opening c ≡ false → Held m b → w ≤ length b → Meets c (take w b) r t
    → Answered c w m r (Back w b t)
unfolding number
call_on c w m b r t e h there p = go (dec_lt w m.given.size)
  where
    long : length (take w b) ≡ w
    long = length-take-le w b there

    -- lent too few, it answers 3 and writes nothing
    three : w < m.given.size → r ≡ refused 3
    three q = elim (dec_lt w 14) [
      | yes a ↦ p.answers.headless (omega (arith, long))
      | no a ↦ p.answers.shorter (omega (arith, long, get_or-take w b 0 0 (omega arith), h.stored.header.size))
    ]

    go : Dec (w < m.given.size) → Answered c w m r (Back w b t)
    go (yes q) =
        let f = refused_three c w m (short_three c w m e q) in
        let k : number r ≡ 3 = ap number (three q) in
        record {
          says = three q ∙ f.0;
          held = subst (λ (x : List ℕ). Held (call c w m) x) (sym (lent_back w b t (p.untouched (omega (arith, k)) (omega (arith, k)))))
              (subst (λ (x : State). Held x b) f.1 h);
        }
    go (no q) =
        let s : Held m (take w b) = record { reached = h.reached; stored = Stored-below m w b (take w b) (omega arith) there (prefix_below w b there) h.stored } in
        record {
          says = subst (λ (x : ℕ). r ≡ reply c x m) long (p.answers.meaning m s);
          held = held_back (call c w m) w b t (subst (λ (x : ℕ). Held (call c x m) t) long (p.becomes m s).held);
        }

-- an opening, lent the first w words of any: accepted, it holds the state that was opened
opened_on : (o : Opening) (w : ℕ) (b : List ℕ) (r : Reply) (t : List ℕ) → Opens o (take w b) r t → open_answer o ≡ 0 → (r ≡ accepted) × Held (opened o) (Back w b t)
opened_on o w b r t p e = (p.answer ∙ rw (eq-eqb (open_answer o) 0 e) refl, held_back (opened o) w b t (p.becomes e).held)

-- refused, it leaves all words
kept_on : (o : Opening) (w : ℕ) (b : List ℕ) (r : Reply) (t : List ℕ) → Opens o (take w b) r t → open_answer o ≢ 0 → (r ≡ refused (open_answer o)) × (Back w b t ≡ b)
kept_on o w b r t p e = (p.answer ∙ rw (ne_eqb (open_answer o) 0 e) refl, lent_back w b t (p.untouched e))

open_on : (n E A : ℕ) (form : Form) (ws : List ℕ) (w : ℕ) (m : State) (b : List ℕ) (r : Reply) (t : List ℕ) → Held m b → Opens (opening n E A form ws w) (take w b) r t
    → Answered (call_open n E A form ws) w m r (Back w b t)
unfolding answer_to reply reply_of call effect
open_on n E A form ws w m b r t h p = go (ℕ_discrete (open_answer o) 0)
  where
    o : Opening
    o = opening n E A form ws w

    go : Dec (open_answer o ≡ 0) → Answered (call_open n E A form ws) w m r (Back w b t)
    go (yes e) =
        let q = opened_on o w b r t p e in
        record { says = q.0 ∙ rw (eq-eqb (open_answer o) 0 e) refl; held = rw (eq-eqb (open_answer o) 0 e) q.1 }
    go (no e) =
        let q = kept_on o w b r t p e in
        record { says = q.0 ∙ rw (ne_eqb (open_answer o) 0 e) refl; held = rw (ne_eqb (open_answer o) 0 e, q.1) h }

-- any call, on a store that holds m
Step-on : (c : Call) (w : ℕ) (m : State) (b : List ℕ) (r : Reply) (t : List ℕ) → Held m b → w ≤ length b → Step c (take w b) r t → Answered c w m r (Back w b t)
unfolding is_opening
Step-on (call_open n E A form ws) w m b r t h there p =
    open_on n E A form ws w m b r t h (subst (λ (x : ℕ). Opens (opening n E A form ws x) (take w b) r t) (length-take-le w b there) p)
Step-on (call_gate g) w m b r t h there p = call_on (call_gate g) w m b r t refl h there p
Step-on (call_turn kind k q) w m b r t h there p = call_on (call_turn kind k q) w m b r t refl h there p
Step-on (call_record kind q tag) w m b r t h there p = call_on (call_record kind q tag) w m b r t refl h there p
Step-on (call_measure q) w m b r t h there p = call_on (call_measure q) w m b r t refl h there p
Step-on (call_reset q) w m b r t h there p = call_on (call_reset q) w m b r t refl h there p
Step-on (call_ccx x y z) w m b r t h there p = call_on (call_ccx x y z) w m b r t refl h there p
Step-on (call_ccz x y z) w m b r t h there p = call_on (call_ccz x y z) w m b r t refl h there p
Step-on (call_kill id) w m b r t h there p = call_on (call_kill id) w m b r t refl h there p
Step-on call_clear w m b r t h there p = call_on call_clear w m b r t refl h there p
Step-on (call_read id) w m b r t h there p = call_on (call_read id) w m b r t refl h there (Step-Meets (call_read id) (take w b) r t refl p)
Step-on (call_look kind q) w m b r t h there p = call_on (call_look kind q) w m b r t refl h there (Step-Meets (call_look kind q) (take w b) r t refl p)

-- ---- all calls

-- the calls' replies are `model`'s, and the words hold the state that `model` computes from the same calls
pub record Computed (cs : List Lent) (m : State) (rs : List Reply) (e : List ℕ) : Type 0 where
  pub says : rs ≡ replies cs m
  pub held : Held (calls cs m) e

pub run_computes : (cs : List Lent) (m : State) (b : List ℕ) (rs : List Reply) (e : List ℕ) → Held m b → Runs cs b rs e → Computed cs m rs e
unfolding replies calls
run_computes [] m b [] e h p = record { says = refl; held = subst (λ (x : List ℕ). Held m x) (sym p) h }
run_computes [] m b (r ∷ rs) e h p = absurd p
run_computes (c ∷ cs) m b [] e h p = absurd p
run_computes (c ∷ cs) m b (r ∷ rs) e h (there, (t, q, p)) =
    let a = Step-on c.call c.store m b r t h there q in
    let k = run_computes cs (call c.call c.store m) (Back c.store b t) rs e a.held p in
    record { says = ap₂ ◌∷◌ a.says k.says; held = k.held }

accepted_zero : (k : ℕ) → accepted ≡ cond (eqb k 0) accepted (refused k) → k ≡ 0
accepted_zero k h = go (eqb k 0) refl h
  where
    go : (t : Bool) → eqb k 0 ≡ t → accepted ≡ cond t accepted (refused k) → k ≡ 0
    go true e h = eqb-true k 0 e
    go false e h = let z : ◌≡◌ {A = ℕ} 0 1 = cc in absurd (omega arith)

-- "an accepted opening and any of our calls, refused ones included": over any words
pub Since-computes : (o : Opening) (cs : List Lent) (rs : List Reply) (e : List ℕ) → Since o cs rs e → (open_answer o ≡ 0) × Computed cs (opened o) rs e
Since-computes o cs rs e p =
    let z : open_answer o ≡ 0 = accepted_zero (open_answer o) p.opening.answer in
    (z, run_computes cs (opened o) (Back o.size p.before p.after) rs e (opened_on o o.size p.before accepted p.after p.opening z).1 p.run)

-- ---- answer 9

-- no reply of `model`'s has a number above 8
small_answer : (m : State) (w k : ℕ) (qs : List ℕ) (records : ℕ) (bad : Bool) → answer m w k qs records bad ≤ 8
unfolding answer
small_answer m w k qs records bad =
    go (ltb w m.given.size) (not (eqb k 0 || eqb k 2 || eqb k 4 || eqb k 6)) (some (leb m.given.n) qs) (twice qs) (ltb m.given.capacity (length m.events + records)) bad
  where
    go : (a b c d e f : Bool) → cond a 3 (cond b 8 (cond c 4 (cond d 5 (cond e 6 (cond f 7 0))))) ≤ 8
    go true b c d e f = omega arith
    go false true c d e f = omega arith
    go false false true d e f = omega arith
    go false false false true e f = omega arith
    go false false false false true f = omega arith
    go false false false false false true = omega arith
    go false false false false false false = omega arith

small_open : (o : Opening) → open_answer o ≤ 8
unfolding open_answer open_number
small_open o =
    go (eqb o.n 0 || ltb (2 ^ 25) (4 * o.n * words o.n) || ltb (2 ^ 20) o.allowance || is_too_wide o.form o.n)
    (eqb o.capacity 0 || ltb (2 ^ 25) (2 * words o.n * o.capacity))
    (not (eqb (length o.label_words) (4 * o.n)) || ltb o.size (need o.n o.capacity o.form))
  where
    go : (a b c : Bool) → cond a 1 (cond b 2 (cond c 3 0)) ≤ 8
    go true b c = omega arith
    go false true c = omega arith
    go false false true = omega arith
    go false false false = omega arith

small_number : (c : Call) (w : ℕ) (m : State) → answer_to c w m ≤ 8
unfolding answer_to
small_number (call_open n E A form ws) w m = small_open (opening n E A form ws w)
small_number (call_gate g) w m = small_answer m w 0 _ 0 false
small_number (call_turn kind k q) w m = small_answer m w k _ 0 false
small_number (call_record kind q tag) w m = small_answer m w 0 _ 1 false
small_number (call_measure q) w m = small_answer m w 0 _ 1 false
small_number (call_reset q) w m = small_answer m w 0 _ 2 false
small_number (call_ccx a b t) w m = small_answer m w 0 _ 7 false
small_number (call_ccz a b t) w m = small_answer m w 0 _ 7 false
small_number (call_kill id) w m = small_answer m w 0 [] 0 _
small_number (call_read id) w m = small_answer m w 0 [] 0 _
small_number call_clear w m = small_answer m w 0 [] 0 false
small_number (call_look kind q) w m = small_answer m w 0 _ 0 false

zero_number : (c : Call) (m : State) → number (reply_of c m) ≡ 0
unfolding reply_of number
zero_number (call_open n E A form ws) m = refl
zero_number (call_gate g) m = refl
zero_number (call_turn kind k q) m = refl
zero_number (call_record kind q tag) m = refl
zero_number (call_measure q) m = refl
zero_number (call_reset q) m = refl
zero_number (call_ccx a b t) m = refl
zero_number (call_ccz a b t) m = refl
zero_number (call_kill id) m = refl
zero_number (call_read id) m = refl
zero_number call_clear m = refl
zero_number (call_look kind q) m = refl

-- the number of a reply is the answer of its call
pub reply-number : (c : Call) (w : ℕ) (m : State) → number (reply c w m) ≡ answer_to c w m
unfolding reply number
reply-number c w m = go (eqb (answer_to c w m) 0) refl
  where
    go : (t : Bool) → eqb (answer_to c w m) 0 ≡ t → number (cond t (reply_of c m) (refused (answer_to c w m))) ≡ answer_to c w m
    go true e = zero_number c m ∙ sym (eqb-true (answer_to c w m) 0 e)
    go false e = refl

-- "Answer 9 can't arise on a store that was opened and then written by our calls only"
pub never_nine : (c : Call) (m : State) (s : List ℕ) (r : Reply) (t : List ℕ) → is_opening c ≡ false → Held m s → Step c s r t → number r ≤ 8
never_nine c m s r t e h p = omega (arith, ap number ((Step-Meets c s r t e p).answers.meaning m h), reply-number c (length s) m, small_number c (length s) m)

-- and so of every reply since an opening, later openings and slices lent too short included
replies_small : (cs : List Lent) (m : State) (r : Reply) → Mem r (replies cs m) → number r ≤ 8
unfolding replies
replies_small [] m r h = absurd h
replies_small (c ∷ cs) m r (inl e) = omega (arith, ap number e, reply-number c.call c.store m, small_number c.call c.store m)
replies_small (c ∷ cs) m r (inr h) = replies_small cs (call c.call c.store m) r h

pub Since-never_nine : (o : Opening) (cs : List Lent) (rs : List Reply) (e : List ℕ) → Since o cs rs e → (r : Reply) → Mem r rs → number r ≤ 8
Since-never_nine o cs rs e p r h = replies_small cs (opened o) r (subst (λ (x : List Reply). Mem r x) (Since-computes o cs rs e p).1.says h)

-- ---- uniqueness

-- "Each public function's contract determines its answer and every lent word afterwards": two ends of a call on a store that our calls have left are equal;
-- where it is lent too short, `short_exit` says what they are
pub one_exit : (c : Call) (m : State) (s : List ℕ) (r r' : Reply) (t t' : List ℕ) → is_opening c ≡ false → Held m s → Fits64 t → Fits64 t' → Step c s r t → Step c s r' t'
    → (r ≡ r') × (t ≡ t')
one_exit c m s r r' t t' e h f f' p p' =
    let a = Step-Meets c s r t e p in
    let b = Step-Meets c s r' t' e p' in
    (a.answers.meaning m h ∙ sym (b.answers.meaning m h), HeldTo-one (call c (length s) m) s t t' f f' (a.becomes m h) (b.becomes m h))

-- a slice that is too short, whatever its words are: 3, and every word as it was
pub short_exit : (c : Call) (s : List ℕ) (r : Reply) (t : List ℕ) → is_opening c ≡ false → TooShort s → Step c s r t → (r ≡ refused 3) × (t ≡ s)
unfolding number
short_exit c s r t e short p =
    let a = Step-Meets c s r t e p in
    let three : r ≡ refused 3 = ⊎_elim (λ (q : length s < 14). a.answers.headless q) (λ (q : length s < get_or s 0 0). a.answers.shorter q) short in
    let k : number r ≡ 3 = ap number three in
    (three, a.untouched (omega (arith, k)) (omega (arith, k)))

-- and of an opening, on any words
pub one_opening : (o : Opening) (s : List ℕ) (r r' : Reply) (t t' : List ℕ) → Fits64 t → Fits64 t' → Opens o s r t → Opens o s r' t' → (r ≡ r') × (t ≡ t')
one_opening o s r r' t t' f f' a b = (a.answer ∙ sym b.answer, go (ℕ_discrete (open_answer o) 0))
  where
    go : Dec (open_answer o ≡ 0) → t ≡ t'
    go (yes e) = HeldTo-one (opened o) s t t' f f' (a.becomes e) (b.becomes e)
    go (no e) = a.untouched e ∙ sym (b.untouched e)

-- ---- demand 3

-- the replies of a look
look_reply : (kind : Kind) (q : ℕ) (m : State) (s : List ℕ) (r : Reply) → Held m s → q < m.given.n → Answers (call_look kind q) s r → r ≡ looked (look kind q m)
unfolding reply reply_of answer_to
look_reply kind q m s r h b p =
    p.meaning m h
    ∙ rw (eq-eqb (answer m (length s) 0 (q ∷ []) 0 false) 0 (numbered m s 0 (q ∷ []) h.stored (unfold turn_known in refl) ∙ sym (single_in m.given.n q b))) refl

ran_out : (a : Look) → NotOut a → (steps : ℕ) → looked a ≡ looked (out steps) → ⊥
ran_out (found id g n) h steps e = let z : ◌≡◌ {A = ℕ} 0 1 = cc in omega arith
ran_out (none n) h steps e = let z : ◌≡◌ {A = ℕ} 0 1 = cc in omega arith
ran_out (blocked n) h steps e = let z : ◌≡◌ {A = ℕ} 0 1 = cc in omega arith
ran_out (out n) h steps e = h

not_out : (a : Look) → (((steps : ℕ) × (looked a ≡ looked (out steps))) → ⊥) → NotOut a
not_out (found id g n) h = tt
not_out (none n) h = tt
not_out (blocked n) h = tt
not_out (out n) h = h (n, refl)

same_look : (a b : Look) → looked a ≡ looked b → a ≡ b
same_look a b e = cc

-- list b in the words is list b of the state
list_is : (m : State) (s : List ℕ) → Held m s → (b : ℕ) → b < list_count m.given.form m.given.n → list_of m s b ≡ list_at m b
unfolding list_of
list_is m s h b q = lists_in_words m.given.form m.given.n m.given.capacity (plane m) m _ h.stored.history b q

no_list : (m : State) (b : ℕ) → length m.lists ≤ b → list_at m b ≡ []
unfolding list_at
no_list m b h = get_or-eq_default m.lists [] h

none_there : (i : ℕ) (ids : List ℕ) → ids ≡ [] → occurs i ids ≡ 1 → ⊥
unfolding occurs keep
none_there i ids e h = let z : occurs i [] ≡ 1 = ap (occurs i) (sym e) ∙ h in omega (arith, z)

-- demand 3 of every store that holds a state that calls leave
pub Held-demands : (m : State) (s : List ℕ) → Held m s → DemandThree m s
Held-demands m s h = record {
  listed = λ b i a t. inside b i (lists.once b i a t) (dec_lt b (list_count m.given.form m.given.n));
  once = λ b i q a t. ap (occurs i) (list_is m s h b q) ∙ lists.once b i a t;
  nowhere_else = λ b i q t. ap (occurs i) (list_is m s h b q) ∙ lists.nowhere_else b i t;
  share = λ b q. subst (λ (x : List ℕ). Share m.given.form (dead m.events x) (length x)) (sym (list_is m s h b q)) (lists.share b);
  enough = λ few steps kind q r b p w. ran_out (look kind q m) (never_out m good few steps kind q) w.0 (sym (look_reply kind q m s r h b p) ∙ w.1);
  names = λ kind q r b p w id g.
      let e : r ≡ looked (look kind q m) = look_reply kind q m s r h b p in
      let both = (exact m (axis paulis kind q m.frame) (look kind q m) (Good-look m good kind q) (not_out (look kind q m) (λ z. w (z.0, e ∙ z.1)))).names id g in (
        (λ z. both.0 (z.0, same_look (look kind q m) (found id g z.0) (sym e ∙ z.1))),
        λ z. let u = both.1 z in (u.0, e ∙ ap looked u.1),
      );
  beyond = λ kind q r b p id g z.
      let e : look kind q m ≡ found id g z.0 = same_look (look kind q m) (found id g z.0) (sym (look_reply kind q m s r h b p) ∙ z.1) in
      subst (λ (x : Look). Says m (axis paulis kind q m.frame) x) e (Good-look m good kind q);
}
  where
    good : Good m
    good = Reached-Good m h.reached

    lists : Listed m
    lists = listed m good

    -- past the last list there is none
    inside : (b i : ℕ) → occurs i (list_at m b) ≡ 1 → Dec (b < list_count m.given.form m.given.n) → b < list_count m.given.form m.given.n
    inside b i e (yes q) = q
    inside b i e (no q) = absurd (none_there i (list_at m b) (no_list m b (omega (arith, h.stored.history.many))) e)

-- "After any calls since an opening, refused ones included, and no other writing, for all labels and in both list forms: ..": the mission's demand 3, of any
-- first part of the caller's words that is no shorter than at the opening
pub demand_three : (o : Opening) (cs : List Lent) (rs : List Reply) (e : List ℕ) → Since o cs rs e
    → (w : ℕ) → (calls cs (opened o)).given.size ≤ w → w ≤ length e → DemandThree (calls cs (opened o)) (take w e)
demand_three o cs rs e p w enough there =
    let h : Held (calls cs (opened o)) e = (Since-computes o cs rs e p).1.held in
    Held-demands (calls cs (opened o)) (take w e)
    (record { reached = h.reached; stored = Stored-below (calls cs (opened o)) w e (take w e) enough there (prefix_below w e there) h.stored })

-- "Two openings that differ only in labels or form, followed by the same calls, give equal looks, steps aside, unless one runs out." All other replies are
-- equal; the allowances may differ too
pub two_stores : (o p : Opening) (cs : List Lent) (rs rs' : List Reply) (e e' : List ℕ) → o.n ≡ p.n → o.capacity ≡ p.capacity → o.size ≡ p.size
    → Since o cs rs e → Since p cs rs' e' → SameReplies rs rs'
two_stores o p cs rs rs' e e' n cap size a b =
    let u = Since-computes o cs rs e a in
    let v = Since-computes p cs rs' e' b in
    subst (λ (x : List Reply). SameReplies x rs') (sym u.1.says)
    (subst (λ (x : List Reply). SameReplies (replies cs (opened o)) x) (sym v.1.says) (two_openings o p n cap size u.0 v.0 cs))
