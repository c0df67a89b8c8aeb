-- What one line leads to. Assumes nothing.
use Prim.Native.Nat.{ℕ, ◌+◌, ◌-◌, ◌*◌, ◌≤◌, ◌<◌}
use mathlib.Core.Path.{◌≡◌, refl, sym, ap, ap₂, ◌∙◌, subst}
use mathlib.Core.Bool.{Bool, true, false, cond}
use mathlib.Core.List.{List, [], ◌∷◌}
use native.Mathlib.Omega.{arith}
use native.Mathlib.Decide.{ℕ_discrete}
use borrow.Author.Tests.{eq-eqb, ne_eqb, lt-ltb, le-ltb}
use types.Run.{OneOf, miss}
use denote.Enum.Declared.{tag_of}
use lib.Dec.{eqb, ltb}
use lib.ListN.{length, take}
use Rattle.model.specs.Events.{State, Opening, record1, kill, clear}
use Rattle.model.specs.Calls as model
use Rattle.model.specs.Calls.{Reply, refused, accepted, open_answer, opened, opening, answer_to, reply, reframed, effect, call, tally}
use Rattle.model.proofs.Theorems.{look_changes_nothing}
use Rattle.model.specs.Events.{keep}
use Rattle.model.specs.Demands.{living}
use Rattle.model.proofs.Enough.{tally-live}
use Rattle.model.proofs.Members.{length-keep}
use Rattle.frame.specs.Axes.{kind_of}
use Rattle.frame.specs.declared.axes.Kind.{Kind}
use Rattle.history.specs.Sizes.{form_of}
use Rattle.history.specs.declared.forms.Form as forms
use Rattle.store.specs.Stores.{Held}
use Rattle.store.specs.Promises.{number, told, told_open, told_look, Answers, Meets, Opens}
use Rattle.std.specs.Prelude.{Option, Some, None, Result, Ok, Err}
use Rattle.store.specs.declared.refusals.Refusal.{Refusal}
use Rattle.store.specs.declared.refusals.OpenError.{OpenError}
use Rattle.history.specs.declared.findings.Look as seen
use Rattle.store.proofs.LentLaws.{Held-Good}
use Rattle.model.proofs.Stay.{record_given}
use Rattle.partner.specs.Calls.{call_in}
use Rattle.partner.specs.declared.calls.Call.{Call}
use Rattle.partner.specs.declared.calls.Call.TheVariants as calls
use Rattle.partner.specs.contracts.calls.Call as writing
use Rattle.text.specs.Spoken.{Saying, replied, bad, not_opened, spoken}
use Rattle.text.specs.Wrote.{Wrote}
use Rattle.text.specs.declared.lines.Line.{Line}
use Rattle.text.specs.declared.lines.Line.TheVariants as line
use Rattle.std.specs.Prelude.{Option, Some, None}
use Rattle.text.proofs.Room.{spoken_room, spoken-Whole}
use Rattle.session.specs.Session.{running, on, stop, room, tried, settled, wrong, led, begun, answered_by, operated, obeyed, answered}
use Rattle.session.specs.Desk.{stage_of, Running, Means, Near, Within, Takes, Said, Tells, records_of, kills_of, counted, Counts, Does}
use Rattle.session.specs.declared.stages.Stage as code
use Rattle.session.specs.declared.stages.Stage.TheVariants as at
use Rattle.session.specs.declared.stages.Ran.{Ran}
use Rattle.session.specs.declared.stages.Ran.TheVariants as runs
use Rattle.session.specs.contracts.stages.Stage as stages
use Rattle.session.proofs.Others.{OfTags, no_operation}
use Rattle.session.proofs.Counting.{counted_is}

-- ---- what is written

pub said_of : (s : Saying) (out out' : List ℕ) (n : ℕ) → Wrote out 0 (spoken s) out' n → 128 ≤ length out → Said n out out'
said_of s out out' n w h =
    let y = spoken-Whole out s out' n w h in
    let e : n ≡ length (spoken s) = y.size in
    let f : length (spoken s) ≤ 128 = spoken_room s in
    record { fresh = record { inside = record { within = w.within; counts = w.counts }; rest = y.kept }; few = omega arith }

pub nothing_said : (out : List ℕ) → Said 0 out out
nothing_said out = record { fresh = record { inside = record { within = omega arith; counts = refl }; rest = refl }; few = omega arith }

pub said_is : (s : Saying) (out out' : List ℕ) (n : ℕ) → Wrote out 0 (spoken s) out' n → 128 ≤ length out → take n out' ≡ spoken s
said_is s out out' n w h = (spoken-Whole out s out' n w h).start

-- ---- counts

pub no_record : (c : Call) → OneOf (0 ∷ 1 ∷ 7 ∷ 8 ∷ []) (tag_of writing.the_type c) → 0 ≡ records_of c
no_record (calls.Gate g) h = refl
no_record (calls.Turn kind k q) h = refl
no_record (calls.Record kind q tag) h = absurd (miss (0 ∷ 1 ∷ 7 ∷ 8 ∷ []) 2 tt h)
no_record (calls.Measure q) h = absurd (miss (0 ∷ 1 ∷ 7 ∷ 8 ∷ []) 3 tt h)
no_record (calls.Reset q) h = absurd (miss (0 ∷ 1 ∷ 7 ∷ 8 ∷ []) 4 tt h)
no_record (calls.Ccx a b t) h = absurd (miss (0 ∷ 1 ∷ 7 ∷ 8 ∷ []) 5 tt h)
no_record (calls.Ccz a b t) h = absurd (miss (0 ∷ 1 ∷ 7 ∷ 8 ∷ []) 6 tt h)
no_record (calls.Kill id) h = refl
no_record calls.Clear h = refl

pub no_kill : (c : Call) → OneOf (0 ∷ 1 ∷ 2 ∷ 3 ∷ 4 ∷ 5 ∷ 6 ∷ 8 ∷ []) (tag_of writing.the_type c) → 0 ≡ kills_of c
no_kill (calls.Gate g) h = refl
no_kill (calls.Turn kind k q) h = refl
no_kill (calls.Record kind q tag) h = refl
no_kill (calls.Measure q) h = refl
no_kill (calls.Reset q) h = refl
no_kill (calls.Ccx a b t) h = refl
no_kill (calls.Ccz a b t) h = refl
no_kill (calls.Kill id) h = absurd (miss (0 ∷ 1 ∷ 2 ∷ 3 ∷ 4 ∷ 5 ∷ 6 ∷ 8 ∷ []) 7 tt h)
no_kill calls.Clear h = refl

pub few_records : (c : Call) → records_of c ≤ 7
few_records (calls.Gate g) = omega arith
few_records (calls.Turn kind k q) = omega arith
few_records (calls.Record kind q tag) = omega arith
few_records (calls.Measure q) = omega arith
few_records (calls.Reset q) = omega arith
few_records (calls.Ccx a b t) = omega arith
few_records (calls.Ccz a b t) = omega arith
few_records (calls.Kill id) = omega arith
few_records calls.Clear = omega arith

module _ (c : Call) (a : Result (Option ℕ) Refusal) (e l : ℕ) where
  pub count_past : 48 < e → Counts c (told a) e l (at.Running e l)
  count_past h = record { is = λ few in_them. absurd (past few); running = (e, l, refl) }
    where
      past : e ≤ 48 → ⊥
      past few = omega arith

  pub count_more : e < l → Counts c (told a) e l (at.Running e l)
  count_more h = record { is = λ few in_them. absurd (more in_them); running = (e, l, refl) }
    where
      more : l ≤ e → ⊥
      more q = omega arith

  pub count_first : (id k : ℕ) → a ≡ Ok (Some id) → k ≡ records_of c → Counts c (told a) e l (at.Running (e + k) (l + k))
  count_first id k u v = record { is = λ few in_them. rw (u, v); running = (e + k, l + k, refl) }

  pub count_Done : (left k : ℕ) → a ≡ Ok None → k ≡ kills_of c → left ≡ l - k → Counts c (told a) e l (at.Running e left)
  count_Done left k u v w = record { is = λ few in_them. rw (u, w, v); running = (e, left, refl) }

  pub count_refused : (k : Refusal) → a ≡ Err k → Counts c (told a) e l (at.Running e l)
  count_refused k u = record { is = λ few in_them. rw u; running = (e, l, refl) }

-- ---- an operation

-- calls but openings leave what the opening gave
effect-given : (c : Call) (w : ℕ) (m : State) → (effect (call_in c) w m).given ≡ m.given
unfolding call_in effect record1 reframed kill clear
effect-given (calls.Gate g) w m = refl
effect-given (calls.Turn kind k q) w m = refl
effect-given (calls.Record kind q tag) w m = refl
effect-given (calls.Measure q) w m = refl
effect-given (calls.Reset q) w m = record_given _ m
effect-given (calls.Ccx a b t) w m = record_given _ m
effect-given (calls.Ccz a b t) w m = record_given _ m
effect-given (calls.Kill id) w m = refl
effect-given calls.Clear w m = refl

given_stays : (c : Call) (w : ℕ) (m : State) → (call (call_in c) w m).given ≡ m.given
unfolding call
given_stays c w m = go (eqb (answer_to (call_in c) w m) 0)
  where
    go : (b : Bool) → (cond b (effect (call_in c) w m) m).given ≡ m.given
    go true = effect-given c w m
    go false = refl

-- the counts of a store of this program
module _ (e l : ℕ) (store : List ℕ) (m : State) (r : Running e l store m) where
  e_is : e ≡ length m.events
  unfolding tally
  e_is = r.events

  l_is : l ≡ living m
  l_is = r.live ∙ tally-live m

  e_few : e ≤ 48
  e_few = let a : length m.events ≤ m.given.capacity = (Held-Good m store r.held).room in omega (arith, e_is, r.few)

  l_few : l ≤ e
  unfolding living
  l_few = let a : length (keep (λ x. x.live) m.events) ≤ length m.events = length-keep _ m.events in omega (arith, e_is, l_is)

module _ (ln e l : ℕ) (c : Call) (store out : List ℕ) (a : Result (Option ℕ) Refusal) (st : code.Stage) (n : ℕ) (store' out' : List ℕ) (size : length store ≡ room) (wide : 128 ≤ length out)
    (meets : Meets (call_in c) store (told a) store') (counts : Counts c (told a) e l st) (wrote : Wrote out 0 (spoken (replied ln (told a))) out' n) where
  abbrev after : State → State
  after m = call (call_in c) room m

  answer_is : (m : State) → Running e l store m → told a ≡ reply (call_in c) room m
  answer_is m r = meets.answers.meaning m r.held ∙ ap (λ (w : ℕ). reply (call_in c) w m) size

  stage_is : (m : State) → Running e l store m → st ≡ at.Running (tally (after m)).events (tally (after m)).live
  stage_is m r =
      counts.is (e_few e l store m r) (l_few e l store m r) ∙ ap (λ (x : Reply). counted c x e l) (answer_is m r)
      ∙ counted_is m e l (e_is e l store m r) (l_is e l store m r) room c

  runs_on : (m : State) → Running e l store m → Running (tally (after m)).events (tally (after m)).live store' (after m)
  runs_on m r = record {
    held = subst (λ (w : ℕ). Held (call (call_in c) w m) store') size (meets.becomes m r.held).held;
    few = subst (λ (o : Opening). o.capacity ≤ 48) (sym (given_stays c room m)) r.few;
    events = refl;
    live = refl;
  }

  pub call_Does : Does (answered_by ln (call_in c)) e l store out (runs.On st n) store' out'
  call_Does = record {
    ends = (subst (λ (x : code.Stage). Within x) (sym counts.running.2) tt, said_of (replied ln (told a)) out out' n wrote wide);
    is = λ m r. (
      after m,
      subst (λ (x : code.Stage). Means x store' (after m)) (sym (stage_is m r)) (runs_on m r),
      λ ls. ap₂ on (sym (ap (λ (x : code.Stage). stage_of x ls (after m)) (stage_is m r)))
          (ap (λ (x : Reply). spoken (replied ln x)) (sym (answer_is m r)) ∙ sym (said_is (replied ln (told a)) out out' n wrote wide)),
    );
  }

module _ (ln e l : ℕ) (kind : Kind) (q : ℕ) (store out : List ℕ) (sight : Result seen.Look Refusal) (n : ℕ) (out' : List ℕ) (size : length store ≡ room) (wide : 128 ≤ length out)
    (answers : Answers (model.call_look (kind_of kind) q) store (told_look sight)) (wrote : Wrote out 0 (spoken (replied ln (told_look sight))) out' n) where
  pub look_Does : Does (answered_by ln (model.call_look (kind_of kind) q)) e l store out (runs.On (at.Running e l) n) store out'
  look_Does = record {
    ends = (tt, said_of (replied ln (told_look sight)) out out' n wrote wide);
    is = λ m r. (
      m,
      r,
      λ ls. ap₂ on (ap running (look_changes_nothing (kind_of kind) q room m))
          (ap (λ (x : Reply). spoken (replied ln x)) (sym (answers.meaning m r.held ∙ ap (λ (w : ℕ). reply (model.call_look (kind_of kind) q) w m) size))
          ∙ sym (said_is (replied ln (told_look sight)) out out' n wrote wide)),
    );
  }

module _ (ln e l : ℕ) (x : Line) (store out : List ℕ) (r : Ran code.Stage) (store' out' : List ℕ) where
  pub call_line : (c : Call) → x ≡ line.Call c → Does (answered_by ln (call_in c)) e l store out r store' out' → Does (operated ln x) e l store out r store' out'
  call_line c u h = subst (λ (y : Line). Does (operated ln y) e l store out r store' out') (sym u) h

  pub look_line : (kind : Kind) (q : ℕ) → x ≡ line.Look kind q → Does (answered_by ln (model.call_look (kind_of kind) q)) e l store out r store' out'
      → Does (operated ln x) e l store out r store' out'
  look_line kind q u h = subst (λ (y : Line). Does (operated ln y) e l store out r store' out') (sym u) h

pub other_line : (ln e l : ℕ) (x : Line) (store out : List ℕ) (n : ℕ) (out' : List ℕ) → OfTags (0 ∷ 1 ∷ 2 ∷ 3 ∷ 4 ∷ []) x → 128 ≤ length out
    → Wrote out 0 (spoken (bad ln)) out' n → Does (operated ln x) e l store out (runs.Stop n) store out'
other_line ln e l x store out n out' h wide w = record {
  ends = said_of (bad ln) out out' n w wide;
  is = λ m r. (m, tt, λ ls. no_operation (wrong ln) x _ _ h ∙ ap stop (sym (said_is (bad ln) out out' n w wide)));
}

-- ---- the opening

module _ (n : ℕ) (f : forms.Form) (E A : ℕ) (ls store out : List ℕ) (a : Result Unit OpenError) (store' : List ℕ) (size : length store ≡ room)
    (opens : Opens (opening n E A (form_of f) (take (4 * n) ls) (length store)) store (told_open a) store') where
  abbrev o : Opening
  o = opening n E A (form_of f) (take (4 * n) ls) room

  Opens-o : Opens o store (told_open a) store'
  Opens-o = subst (λ (w : ℕ). Opens (opening n E A (form_of f) (take (4 * n) ls) w) store (told_open a) store') size opens

  all_read : {X : Type 0} (x y : X) → cond (ltb n n) x y ≡ y
  all_read x y = rw (le-ltb n n (omega arith))

  pub refused_opening : (k j : ℕ) (out' : List ℕ) → told_open a ≡ refused k → 128 ≤ length out → Wrote out 0 (spoken (not_opened k)) out' j
      → Tells settled (at.Labels n f E A n) ls store out (runs.Stop j) ls store' out'
  unfolding tried number
  refused_opening k j out' u wide w = record {
    ends = said_of (not_opened k) out out' j w wide;
    is = λ m h. (m, tt, all_read _ _ ∙ go (ℕ_discrete (open_answer o) 0));
  }
    where
      says_k : refused k ≡ cond (eqb (open_answer o) 0) accepted (refused (open_answer o))
      says_k = sym u ∙ Opens-o.answer

      go : Dec (open_answer o ≡ 0) → tried o ≡ stop (take j out')
      go (yes z) = absurd (never (says_k ∙ ap (λ (b : Bool). cond b accepted (refused (open_answer o))) (eq-eqb (open_answer o) 0 z)))
        where
          never : refused k ≡ accepted → ⊥
          never e = let y : ◌≡◌ {A = ℕ} 0 1 = cc in omega arith
      go (no z) =
          let e : k ≡ open_answer o = ap number (says_k ∙ ap (λ (b : Bool). cond b accepted (refused (open_answer o))) (ne_eqb (open_answer o) 0 z)) in
          ap (λ (b : Bool). cond b (on (running (opened o)) []) (stop (spoken (not_opened (open_answer o))))) (ne_eqb (open_answer o) 0 z)
          ∙ ap stop (ap (λ (i : ℕ). spoken (not_opened i)) (sym e) ∙ sym (said_is (not_opened k) out out' j w wide))

  first : E ≤ 48 → Held (opened o) store' → Running 0 0 store' (opened o)
  unfolding opened opening tally keep
  first few h = record { held = h; few = few; events = refl; live = refl }

  pub done_opening : told_open a ≡ accepted → E ≤ 48 → Tells settled (at.Labels n f E A n) ls store out (runs.On (at.Running 0 0) 0) ls store' out
  unfolding tried
  done_opening h few = go (ℕ_discrete (open_answer o) 0)
    where
      go : Dec (open_answer o ≡ 0) → Tells settled (at.Labels n f E A n) ls store out (runs.On (at.Running 0 0) 0) ls store' out
      go (yes z) = record {
        ends = (tt, nothing_said out);
        is = λ m u. (opened o, first few (Opens-o.becomes z).held, all_read _ _ ∙ ap (λ (b : Bool). cond b (on (running (opened o)) []) (stop (spoken (not_opened (open_answer o))))) (eq-eqb (open_answer o) 0 z));
      }
      go (no z) = absurd (never (sym h ∙ Opens-o.answer ∙ ap (λ (b : Bool). cond b accepted (refused (open_answer o))) (ne_eqb (open_answer o) 0 z)))
        where
          never : {k : ℕ} → accepted ≡ refused k → ⊥
          never e = let y : ◌≡◌ {A = ℕ} 0 1 = cc in omega arith

-- ---- to a stage

abbrev pub At : List ℕ → code.Stage → Type 0
At ks s = OneOf ks (tag_of stages.the_type s)

module _ (ls store out : List ℕ) where
  pub more_labels : (st : code.Stage) (n : ℕ) (f : forms.Form) (E A q : ℕ) → st ≡ at.Labels n f E A q → q < n → Near st
      → Tells settled st ls store out (runs.On (at.Labels n f E A q) 0) ls store out
  more_labels st n f E A q u h near =
      subst (λ (x : code.Stage). Tells settled x ls store out (runs.On (at.Labels n f E A q) 0) ls store out) (sym u)
      (record {
        ends = let w : Near (at.Labels n f E A q) = subst (λ (x : code.Stage). Near x) u near in ((w.0, w.1, h), nothing_said out);
        is = λ m means. (m, means, rw (lt-ltb q n h));
      })

  pub rests : (st : code.Stage) → At (0 ∷ 1 ∷ 2 ∷ 3 ∷ 5 ∷ []) st → Near st → Tells settled st ls store out (runs.On st 0) ls store out
  rests at.Qubits h near = record { ends = (near, nothing_said out); is = λ m means. (m, means, refl) }
  rests (at.Form n) h near = record { ends = (near, nothing_said out); is = λ m means. (m, means, refl) }
  rests (at.Events n f) h near = record { ends = (near, nothing_said out); is = λ m means. (m, means, refl) }
  rests (at.Steps n f E) h near = record { ends = (near, nothing_said out); is = λ m means. (m, means, refl) }
  rests (at.Labels n f E A q) h near = absurd (miss (0 ∷ 1 ∷ 2 ∷ 3 ∷ 5 ∷ []) 4 tt h)
  rests (at.Running e l) h near = absurd near

  pub Near-labels : (st : code.Stage) (n : ℕ) (f : forms.Form) (E A q : ℕ) → st ≡ at.Labels n f E A q → Near st → (n ≤ 32) × (E ≤ 48) × (q ≤ n)
  Near-labels st n f E A q u near = subst (λ (x : code.Stage). Near x) u near

  pub all_labels : (st : code.Stage) (n : ℕ) (f : forms.Form) (E A q : ℕ) (r : Ran code.Stage) (store' out' : List ℕ) → st ≡ at.Labels n f E A q → n ≤ q → Near st
      → Tells settled (at.Labels n f E A n) ls store out r ls store' out' → Tells settled st ls store out r ls store' out'
  all_labels st n f E A q r store' out' u h near t =
      let w : Near (at.Labels n f E A q) = Near-labels st n f E A q u near in
      let e : n ≡ q = omega (arith, w.2) in
      subst (λ (x : code.Stage). Tells settled x ls store out r ls store' out') (ap (at.Labels n f E A) e ∙ sym u) t

-- ---- a line before the store is open

Near-Means : (s : code.Stage) → Near s → (store : List ℕ) (m : State) → Means s store m
Near-Means at.Qubits h store m = tt
Near-Means (at.Form n) h store m = tt
Near-Means (at.Events n f) h store m = tt
Near-Means (at.Steps n f E) h store m = tt
Near-Means (at.Labels n f E A q) h store m = tt
Near-Means (at.Running e l) h store m = absurd h

module _ (ln : ℕ) (st : code.Stage) (l : Line) (ls store out : List ℕ) (k : Option code.Stage) (ls' : List ℕ) (takes : Takes st ls l k ls') where
  Took-is : (x : Option code.Stage) → k ≡ x → Takes st ls l x ls'
  Took-is x e = subst (λ (y : Option code.Stage). Takes st ls l y ls') e takes

  pub took-Near : (s : code.Stage) → k ≡ Some s → Near s
  took-Near s e = (Took-is (Some s) e).near

  pub goes_on : (s : code.Stage) (r : Ran code.Stage) (store' out' : List ℕ) → k ≡ Some s → Tells settled s ls' store out r ls' store' out'
      → Tells (begun ln l) st ls store out r ls' store' out'
  goes_on s r store' out' e t = record {
    ends = t.ends;
    is = λ m means.
        let d = t.is m (Near-Means s (took-Near s e) store m) in
        (d.0, d.1, ap (led ln) ((Took-is (Some s) e).is m) ∙ d.2);
  }

  pub goes_wrong : (n : ℕ) (out' : List ℕ) → k ≡ None → 128 ≤ length out → Wrote out 0 (spoken (bad ln)) out' n
      → Tells (begun ln l) st ls store out (runs.Stop n) ls' store out'
  goes_wrong n out' e wide w = record {
    ends = said_of (bad ln) out out' n w wide;
    is = λ m means. (m, tt, ap (led ln) ((Took-is None e).is m) ∙ ap stop (sym (said_is (bad ln) out out' n w wide)));
  }

-- ---- any line

module _ (ln : ℕ) (st : code.Stage) (l : Line) (ls store out : List ℕ) (r : Ran code.Stage) (ls' store' out' : List ℕ) where
  pub obeys_open : (e v : ℕ) → st ≡ at.Running e v → ls' ≡ ls → Does (operated ln l) e v store out r store' out'
      → Tells (obeyed ln l) st ls store out r ls' store' out'
  obeys_open e v u same d =
      subst (λ (x : code.Stage). Tells (obeyed ln l) x ls store out r ls' store' out') (sym u)
      (record { ends = d.ends; is = λ m means. let y = d.is m means in (y.0, y.1, y.2 ls') })

  begun_is : (s : code.Stage) → At (0 ∷ 1 ∷ 2 ∷ 3 ∷ 4 ∷ []) s → (m : State) → obeyed ln l (stage_of s ls m) ≡ begun ln l (stage_of s ls m)
  begun_is at.Qubits h m = refl
  begun_is (at.Form n) h m = refl
  begun_is (at.Events n f) h m = refl
  begun_is (at.Steps n f E) h m = refl
  begun_is (at.Labels n f E A q) h m = refl
  begun_is (at.Running e v) h m = absurd (miss (0 ∷ 1 ∷ 2 ∷ 3 ∷ 4 ∷ []) 5 tt h)

  pub obeys_begun : At (0 ∷ 1 ∷ 2 ∷ 3 ∷ 4 ∷ []) st → Tells (begun ln l) st ls store out r ls' store' out' → Tells (obeyed ln l) st ls store out r ls' store' out'
  obeys_begun h t = record { ends = t.ends; is = λ m means. let d = t.is m means in (d.0, d.1, begun_is st h m ∙ d.2) }

  pub answers_line : (p q : Option Line) → q ≡ p → q ≡ Some l → Tells (obeyed ln l) st ls store out r ls' store' out'
      → Tells (answered ln p) st ls store out r ls' store' out'
  answers_line p q u e t = subst (λ (x : Option Line). Tells (answered ln x) st ls store out r ls' store' out') (sym e ∙ u) t

pub answers_bad : (ln : ℕ) (st : code.Stage) (ls store out : List ℕ) (n : ℕ) (out' : List ℕ) (p q : Option Line) → q ≡ p → q ≡ None → 128 ≤ length out
    → Wrote out 0 (spoken (bad ln)) out' n → Tells (answered ln p) st ls store out (runs.Stop n) ls store out'
answers_bad ln st ls store out n out' p q u e wide w =
    subst (λ (x : Option Line). Tells (answered ln x) st ls store out (runs.Stop n) ls store out') (sym e ∙ u)
    (record { ends = said_of (bad ln) out out' n w wide; is = λ m means. (m, tt, ap stop (sym (said_is (bad ln) out out' n w wide))) })
