-- An event, once recorded, keeps its number, axis, tag, sign and label, and a dead one stays dead; every event was recorded by one call; and no
-- rotation from before a clear can be found. Only an accepted opening ends that. Assumes nothing.
use Prim.Native.Nat.{ℕ, ◌+◌, ◌-◌, ◌≤◌, ◌<◌}
use mathlib.Core.Path.{◌≡◌, refl, sym, ap, ◌∙◌, subst}
use mathlib.Core.Logic.{◌⊎◌, inl, inr}
use mathlib.Core.Bool.{Bool, true, false, cond, true≢false}
use mathlib.Core.List.{List, [], ◌∷◌, ◌++◌, append-nil, append_assoc}
use native.Mathlib.Omega.{arith}
use native.Mathlib.Decide.{ℕ_discrete, dec_lt}
use native.Mathlib.Nat.{not-suc-le-zero}
use lib.ListN.{length, length-set, length-append}
use lib.Seq.{get_or-append-add}
use lib.Dec.{eqb}
use borrow.Author.Tests.{eqb-true, eq-eqb}
use Rattle.model.specs.Pauli.{Pauli}
use Rattle.model.specs.Events.{Event, Opening, State, no_event, event_at, record1, record_all, killed, kill, clear}
use Rattle.model.specs.Calls.{opened, Call, call_open, call_gate, call_turn, call_record, call_measure, call_reset, call_ccx, call_ccz, call_kill, call_read, call_clear, call_look, Lent, answer_to, not_killable, reframed, effect, call, calls}
use Rattle.model.specs.Demands.{recorded_by, SameEvent, is_opening, Recorded, Match}
use Rattle.model.proofs.Lists.{at_old, length_new, gone, gone_at, gone_other}
use Rattle.model.proofs.Good.{passed, kill_there}

-- event i is there in t too, the same but for its life
abbrev Stays : State → State → ℕ → Type 0
Stays s t i = (i < length t.events) × SameEvent (event_at t.events i) (event_at s.events i)

same : (a b : Event) → a ≡ b → SameEvent a b
same a b e = record {
  body = ap (λ (v : Event). v.body) e;
  x = ap (λ (v : Event). v.x) e;
  z = ap (λ (v : Event). v.z) e;
  dead_stays = (λ d. ap (λ (v : Event). v.live) e ∙ d);
}

then : (a b c : Event) → SameEvent a b → SameEvent b c → SameEvent a c
then a b c h k = record { body = h.body ∙ k.body; x = h.x ∙ k.x; z = h.z ∙ k.z; dead_stays = (λ d. h.dead_stays (k.dead_stays d)) }

-- ---- what is recorded goes to the end

all_events : (es : List Event) (s : State) → (record_all es s).events ≡ s.events ++ es
unfolding record_all record1
all_events [] s = sym (append-nil s.events)
all_events (e ∷ es) s = all_events es (record1 e s) ∙ append_assoc s.events (e ∷ []) es

-- the sizes and the frames stay as they are
pub record_given : (es : List Event) (s : State) → (record_all es s).given ≡ s.given
unfolding record_all record1
record_given [] s = refl
record_given (e ∷ es) s = record_given es (record1 e s)

pub record_frame : (es : List Event) (s : State) → (record_all es s).frame ≡ s.frame
unfolding record_all record1
record_frame [] s = refl
record_frame (e ∷ es) s = record_frame es (record1 e s)

pub accepted_call : (c : Call) (w : ℕ) (s : State) → answer_to c w s ≡ 0 → call c w s ≡ effect c w s
unfolding call
accepted_call c w s h = ap (λ (t : Bool). cond t (effect c w s) s) (eq-eqb (answer_to c w s) 0 h)

-- how a call that is no opening grows the events: they are longer by what it records, and that stands at their end
record Grows (c : Call) (s t : State) : Type 0 where
  longer : length t.events ≡ length s.events + length (recorded_by c s)
  new : (k : ℕ) → k < length (recorded_by c s) → event_at t.events (length s.events + k) ≡ event_at (recorded_by c s) k

grows : (c : Call) (s t : State) → t.events ≡ s.events ++ recorded_by c s → Grows c s t
unfolding event_at
grows c s t e = record {
  longer = ap length e ∙ length-append s.events (recorded_by c s);
  new = (λ k h. ap (λ (es : List Event). event_at es (length s.events + k)) e ∙ get_or-append-add s.events (recorded_by c s) k no_event);
}

none_new : (c : Call) (s t : State) → recorded_by c s ≡ [] → length t.events ≡ length s.events → Grows c s t
none_new c s t e f = record {
  longer = f ∙ sym (ap (λ (es : List Event). length s.events + length es) e ∙ zero (length s.events));
  new = (λ k h. absurd (not-suc-le-zero (subst (λ (es : List Event). k < length es) e h)));
}
  where
    zero : (n : ℕ) → n + 0 ≡ n
    zero n = omega arith

Grows-effect : (c : Call) (w : ℕ) (s : State) → is_opening c ≡ false → Grows c s (effect c w s)
unfolding effect is_opening recorded_by
Grows-effect (call_open n E A form ws) w s o = absurd (true≢false o)
Grows-effect (call_gate f) w s o = none_new (call_gate f) s _ refl (unfold reframed in refl)
Grows-effect (call_turn kind k q) w s o = none_new (call_turn kind k q) s _ refl (unfold reframed in refl)
Grows-effect (call_record kind q tag) w s o = grows (call_record kind q tag) s _ (unfold record1 in refl)
Grows-effect (call_measure q) w s o = grows (call_measure q) s _ (unfold record1 in refl)
Grows-effect (call_reset q) w s o = grows (call_reset q) s _ (all_events _ s)
Grows-effect (call_ccx a b t) w s o = grows (call_ccx a b t) s _ (all_events _ s)
Grows-effect (call_ccz a b t) w s o = grows (call_ccz a b t) s _ (all_events _ s)
Grows-effect (call_kill id) w s o = none_new (call_kill id) s _ refl (unfold kill in length-set s.events id (killed (event_at s.events id)))
Grows-effect (call_read id) w s o = none_new (call_read id) s _ refl refl
Grows-effect call_clear w s o = none_new call_clear s _ refl (unfold clear in refl)
Grows-effect (call_look kind q) w s o = none_new (call_look kind q) s _ refl refl

-- ---- what was recorded stays

recorded : (e : Event) (s : State) (i : ℕ) → i < length s.events → Stays s (record1 e s) i
unfolding record1
recorded e s i h = (omega (arith, length_new s.events e), same _ _ (at_old s.events e i h))

all_recorded : (es : List Event) (s : State) (i : ℕ) → i < length s.events → Stays s (record_all es s) i
unfolding record_all
all_recorded [] s i h = (h, same _ _ refl)
all_recorded (e ∷ es) s i h =
    let a : Stays s (record1 e s) i = recorded e s i h in
    let b : Stays (record1 e s) (record_all es (record1 e s)) i = all_recorded es (record1 e s) i a.0 in
    (b.0, then _ _ _ b.1 a.1)

marked : (id : ℕ) (s : State) (i : ℕ) → id < length s.events → i < length s.events → Stays s (kill id s) i
unfolding kill killed gone
marked id s i k h = (omega (arith, length-set s.events id (killed (event_at s.events id))), go (ℕ_discrete i id))
  where
    off : (e : Event) → SameEvent (killed e) e
    off e = record { body = refl; x = refl; z = refl; dead_stays = (λ d. refl) }

    go : Dec (i ≡ id) → SameEvent (event_at (kill id s).events i) (event_at s.events i)
    go (yes e) = rw (e, gone_at s.events id k) (off (event_at s.events id))
    go (no e) = same _ _ (gone_other s.events id k i e)

Stays-effect : (c : Call) (w : ℕ) (s : State) (i : ℕ) → is_opening c ≡ false → answer_to c w s ≡ 0 → i < length s.events → Stays s (effect c w s) i
unfolding effect is_opening answer_to
Stays-effect (call_open n E A form ws) w s i o a h = absurd (true≢false o)
Stays-effect (call_gate f) w s i o a h = unfold reframed in (h, same _ _ refl)
Stays-effect (call_turn kind k q) w s i o a h = unfold reframed in (h, same _ _ refl)
Stays-effect (call_record kind q tag) w s i o a h = recorded _ s i h
Stays-effect (call_measure q) w s i o a h = recorded _ s i h
Stays-effect (call_reset q) w s i o a h = all_recorded _ s i h
Stays-effect (call_ccx p q t) w s i o a h = all_recorded _ s i h
Stays-effect (call_ccz p q t) w s i o a h = all_recorded _ s i h
Stays-effect (call_kill id) w s i o a h = marked id s i (kill_there s.events id (passed s w 0 [] 0 (not_killable s.events id) a).fine) h
Stays-effect (call_read id) w s i o a h = (h, same _ _ refl)
Stays-effect call_clear w s i o a h = unfold clear in (h, same _ _ refl)
Stays-effect (call_look kind q) w s i o a h = (h, same _ _ refl)

pub stays : (c : Call) (w : ℕ) (s : State) (i : ℕ) → is_opening c ≡ false → i < length s.events → Stays s (call c w s) i
unfolding call
stays c w s i o h = go (eqb (answer_to c w s) 0) refl
  where
    go : (t : Bool) → eqb (answer_to c w s) 0 ≡ t → Stays s (cond t (effect c w s) s) i
    go true e = Stays-effect c w s i o (eqb-true (answer_to c w s) 0 e) h
    go false e = (h, same _ _ refl)

-- ---- every event was recorded

-- a call was refused, or accepted
outcome : (c : Call) (w : ℕ) (s : State) → (call c w s ≡ s) ⊎ (answer_to c w s ≡ 0)
unfolding call
outcome c w s = go (eqb (answer_to c w s) 0) refl
  where
    go : (t : Bool) → eqb (answer_to c w s) 0 ≡ t → (cond t (effect c w s) s ≡ s) ⊎ (answer_to c w s ≡ 0)
    go true e = inr (eqb-true (answer_to c w s) 0 e)
    go false e = inl refl

opening_empty : (c : Call) (w : ℕ) (s : State) → is_opening c ≡ true → (effect c w s).events ≡ []
unfolding effect is_opening
opening_empty (call_open n E A form ws) w s o = unfold opened in refl
opening_empty (call_gate f) w s o = absurd (true≢false (sym o))
opening_empty (call_turn kind k q) w s o = absurd (true≢false (sym o))
opening_empty (call_record kind q tag) w s o = absurd (true≢false (sym o))
opening_empty (call_measure q) w s o = absurd (true≢false (sym o))
opening_empty (call_reset q) w s o = absurd (true≢false (sym o))
opening_empty (call_ccx a b t) w s o = absurd (true≢false (sym o))
opening_empty (call_ccz a b t) w s o = absurd (true≢false (sym o))
opening_empty (call_kill id) w s o = absurd (true≢false (sym o))
opening_empty (call_read id) w s o = absurd (true≢false (sym o))
opening_empty call_clear w s o = absurd (true≢false (sym o))
opening_empty (call_look kind q) w s o = absurd (true≢false (sym o))

-- an event of the state that calls leave was there before them, or one of them recorded it
every : (cs : List Lent) (s : State) (i : ℕ) → i < length (calls cs s).events → ((i < length s.events) × SameEvent (event_at (calls cs s).events i) (event_at s.events i)) ⊎ Recorded cs s i
unfolding calls
every [] s i h = inl (h, same _ _ refl)
every (c ∷ cs) s i h = pick (every cs t i h)
  where
    t : State
    t = call c.call c.store s

    last : Event
    last = event_at (calls cs t).events i

    Either : Type 0
    Either = ((i < length s.events) × SameEvent last (event_at s.events i)) ⊎ Recorded (c ∷ cs) s i

    -- recorded by this call
    here : is_opening c.call ≡ false → answer_to c.call c.store s ≡ 0 → length s.events ≤ i → i < length t.events → SameEvent last (event_at t.events i) → Either
    here o a low u k =
        let g : Grows c.call s t = subst (Grows c.call s) (sym (accepted_call c.call c.store s a)) (Grows-effect c.call c.store s o) in
        let p : ℕ = i - length s.events in
        let e : i ≡ length s.events + p = omega arith in
        let v : p < length (recorded_by c.call s) = omega (arith, g.longer) in
        inr (record {
          before = [];
          by = c;
          behind = cs;
          split = refl;
          was_accepted = a;
          place = p;
          there = v;
          number = e;
          same = then _ _ _ k (same _ _ (ap (event_at t.events) e ∙ g.new p v));
        })

    took : (o : Bool) → is_opening c.call ≡ o → answer_to c.call c.store s ≡ 0 → Dec (i < length s.events) → i < length t.events → SameEvent last (event_at t.events i) → Either
    took true o a d u k =
        absurd (not-suc-le-zero (subst (λ (es : List Event). i < length es) (ap (λ (v : State). v.events) (accepted_call c.call c.store s a) ∙ opening_empty c.call c.store s o) u))
    took false o a (yes d) u k = inl (d, then _ _ _ k (stays c.call c.store s i o d).1)
    took false o a (no d) u k = here o a (omega arith) u k

    old : (t ≡ s) ⊎ (answer_to c.call c.store s ≡ 0) → i < length t.events → SameEvent last (event_at t.events i) → Either
    old (inl e) u k = inl (subst (λ (v : State). i < length v.events) e u, subst (λ (v : State). SameEvent last (event_at v.events i)) e k)
    old (inr a) u k = took (is_opening c.call) refl a (dec_lt i (length s.events)) u k

    pick : ((i < length t.events) × SameEvent last (event_at t.events i)) ⊎ Recorded cs t i → Either
    pick (inl r) = old (outcome c.call c.store s) r.0 r.1
    pick (inr r) = inr (record {
      before = c ∷ r.before;
      by = r.by;
      behind = r.behind;
      split = ap {B = List Lent} (λ l. c ∷ l) r.split;
      was_accepted = r.was_accepted;
      place = r.place;
      there = r.there;
      number = r.number;
      same = r.same;
    })

pub all_Recorded_since : (o : Opening) (cs : List Lent) (i : ℕ) → i < length (calls cs (opened o)).events → Recorded cs (opened o) i
all_Recorded_since o cs i h = go (every cs (opened o) i h)
  where
    go : ((i < length (opened o).events) × SameEvent (event_at (calls cs (opened o)).events i) (event_at (opened o).events i)) ⊎ Recorded cs (opened o) i → Recorded cs (opened o) i
    go (inl r) = absurd (unfold opened in not-suc-le-zero r.0)
    go (inr r) = r

-- ---- a clear

pub Cleared-none : (w : ℕ) (s : State) (p : Pauli) (id : ℕ) → answer_to call_clear w s ≡ 0 → Match (call call_clear w s) p id → ⊥
unfolding effect clear
Cleared-none w s p id h m =
    let n : Match (effect call_clear w s) p id = subst (λ (t : State). Match t p id) (accepted_call call_clear w s h) m in
    omega (arith, n.since, n.there)
