-- What every state that our calls can leave keeps (`Good`): an accepted opening gives it, and every call, refused or not, keeps it. Assumes nothing.
use Prim.Native.Nat.{ℕ, suc, ◌+◌, ◌*◌, ◌/◌, ◌^◌, ◌≤◌, ◌<◌}
use mathlib.Core.Path.{◌≡◌, refl, sym, ap, ◌∙◌, subst}
use mathlib.Core.Logic.{◌≢◌, inl, inr}
use mathlib.Core.Bool.{Bool, true, false, cond, not, ◌&&◌, ◌||◌, true≢false}
use mathlib.Core.List.{List, [], ◌∷◌, ◌++◌, map}
use native.Mathlib.Omega.{arith}
use native.Mathlib.Decide.{ℕ_discrete, dec_lt}
use native.Mathlib.Nat.{not-suc-le-zero, lt_of_lt_of_le}
use lib.ListN.{length, get_or, set, length-set, length-map, length-replicate, get_or-replicate, get_or-eq_default}
use lib.Pow.{pow_mono}
use lib.Dec.{eqb, ltb, leb}
use borrow.Author.Tests.{ltb-false, leb-false, eqb-true, eqb-false, eq-eqb, not-false}
use Rattle.model.specs.Pauli.{Pauli, times}
use Rattle.model.specs.Frame.{Rows, Kind, Gate, h_gate, x_gate, y_gate, z_gate, s_gate, sdg_gate, sx_gate, cnot_gate, cz_gate, swap_gate, cy_gate, x_at, z_at, axis, paulis}
use Rattle.model.specs.Sketch.{Label, same_label, labels, label_rows}
use Rattle.model.specs.Events.{Body, rotation, blocker, Event, Form, scalar, sliced, Opening, State, plane, keep, some, words, no_event, event_at, live_at, is_rotation, record1, record_all, blocker_on, killed, dead, factor, tidy, kill, clear}
use Rattle.model.specs.Search.{list_at, has_label, same_axis, look}
use Rattle.model.specs.Store.{need, list_count}
use Rattle.model.specs.Calls.{is_too_wide, open_number, open_answer, opened, opening, Call, call_open, call_gate, call_turn, call_record, call_measure, call_reset, call_ccx, call_ccz, call_kill, call_read, call_clear, call_look, Lent, answer, twice, answer_to, gate_qubits, not_readable, not_killable, reframed, rotation_of, seven, effect, call, calls}
use Rattle.model.specs.Demands.{Mem, Fits, Small, label_of, Labelled, Signed, Says}
use Rattle.model.proofs.Invariant.{Sound, even_axis, Sound-gate, Sound-turn, Sound-fresh}
use Rattle.model.proofs.Products.{has_sign}
use Rattle.model.proofs.Within.{Within, small_times, Within-gate, Within-turn, Within-axis, Within-fresh}
use Rattle.model.proofs.Labels.{label_of_sets, Follows, Follows-gate, Follows-turn, Follows-axis, Follows-fresh, label_rows-length}
use Rattle.model.proofs.Members.{clash, and_both, both_and, Mem-some}
use Rattle.model.proofs.Lists.{ListOk, ListsOk, push-length, at_old, at_new, length_new, gone, gone_at, gone_other, lists_record1, lists_kill, lists_clear}
use Rattle.model.proofs.Looks.{matches, look-Says}

-- ---- events

pub record EventOk (o : Rows Label) (n : ℕ) (e : Event) : Type 0 where
  pub small_x : e.x < 2 ^ n
  pub small_z : e.z < 2 ^ n
  pub labelled : Labelled o e.x e.z e.body
  pub signed : Signed e.body

-- the most lists that a form has
unfoldable pub limit : Form → ℕ
limit scalar = 64
limit sliced = 32

-- the labels at opening
abbrev pub origin : State → Rows Label
origin s = label_rows s.given.label_words

-- what every state keeps
pub record Good (s : State) : Type 0 where
  pub sound : Sound s.given.n s.frame
  pub within : Within s.given.n s.frame
  pub follows : Follows (origin s) s.frame s.sketch
  pub wide : s.given.n ≤ (plane s) * length s.lists
  pub few : length s.lists ≤ limit s.given.form
  pub room : length s.events ≤ s.given.capacity
  pub past : s.cleared ≤ length s.events
  pub each : (i : ℕ) → i < length s.events → EventOk (origin s) s.given.n (event_at s.events i)
  pub lists_ok : ListsOk s

-- ---- every look on a good state

same_label_lem : (a b : Label) → a ≡ b → same_label a b ≡ true
unfolding same_label
same_label_lem a b e = both_and (eqb a.high b.high) (eqb a.low b.low) (eq-eqb _ _ (ap (λ (w : Label). w.high) e)) (eq-eqb _ _ (ap (λ (w : Label). w.low) e))

body_label : (o : Rows Label) (a : Label) (x z : ℕ) (b : Body) → is_rotation b ≡ true → Labelled o x z b → a ≡ label_of o (record { phase = 0; x = x; z = z })
    → has_label a b ≡ true
unfolding has_label is_rotation
body_label o a x z (rotation tag sgn label) r h e = same_label_lem a label (e ∙ sym h)
body_label o a x z blocker r h e = r

-- a live event is there
pub live_there : (es : List Event) (id : ℕ) → live_at es id ≡ true → id < length es
unfolding live_at event_at no_event
live_there es id h = go (dec_lt id (length es))
  where
    go : Dec (id < length es) → id < length es
    go (yes u) = u
    go (no u) = clash (get_or es id no_event).live h (ap (λ (w : Event). w.live) (get_or-eq_default es no_event (omega arith)))

Good-label : (s : State) (a : Label) (x z : ℕ) → Good s → a ≡ label_of (origin s) (record { phase = 0; x = x; z = z })
    → (id : ℕ) → matches s.events x z id ≡ true → has_label a (event_at s.events id).body ≡ true
unfolding matches same_axis
Good-label s a x z g e id m =
    let v : Event = event_at s.events id in
    let u : (live_at s.events id ≡ true) × ((is_rotation v.body && (eqb x v.x && eqb z v.z)) ≡ true)
    = and_both (live_at s.events id) (is_rotation v.body && (eqb x v.x && eqb z v.z)) m in
    let w : (is_rotation v.body ≡ true) × ((eqb x v.x && eqb z v.z) ≡ true) = and_both (is_rotation v.body) (eqb x v.x && eqb z v.z) u.1 in
    let y : (eqb x v.x ≡ true) × (eqb z v.z ≡ true) = and_both (eqb x v.x) (eqb z v.z) w.1 in
    body_label (origin s) a v.x v.z v.body w.0 (g.each id (live_there s.events id u.0)).labelled
    (e ∙ label_of_sets (origin s) _ _ (eqb-true x v.x y.0) (eqb-true z v.z y.1))

-- demand 3, one way
pub Good-look : (s : State) → Good s → (kind : Kind) (q : ℕ) → Says s (axis paulis kind q s.frame) (look kind q s)
unfolding look
Good-look s g kind q =
    look-Says s g.lists_ok g.past (axis labels kind q s.sketch) p (grown b.x_small) (grown b.z_small)
    (Good-label s (axis labels kind q s.sketch) p.x p.z g (Follows-axis (origin s) s.frame s.sketch kind q g.follows ∙ label_of_sets (origin s) p _ refl refl))
  where
    p : Pauli
    p = axis paulis kind q s.frame

    b : Small s.given.n p
    b = Within-axis s.given.n kind q s.frame g.within

    grown : {y : ℕ} → y < 2 ^ s.given.n → y < 2 ^ (plane s * length s.lists)
    grown h = lt_of_lt_of_le h (pow_mono g.wide)

-- ---- every accepted call keeps a state good

-- what the answer 0 says
pub record Passed (s : State) (store_words : ℕ) (qubits : List ℕ) (records : ℕ) (bad : Bool) : Type 0 where
  pub long : s.given.size ≤ store_words
  pub inside : some (leb s.given.n) qubits ≡ false
  pub differ : twice qubits ≡ false
  pub fits : length s.events + records ≤ s.given.capacity
  pub fine : bad ≡ false

cond_zero : (t : Bool) (k m : ℕ) → cond t (suc k) m ≡ 0 → (t ≡ false) × (m ≡ 0)
cond_zero true k m h = (absurd (wrong k h), absurd (wrong k h))
  where
    wrong : (k : ℕ) → suc k ≡ 0 → ⊥
    wrong k h = omega arith
cond_zero false k m h = (refl, h)

pub passed : (s : State) (w turn_by : ℕ) (qubits : List ℕ) (records : ℕ) (bad : Bool) → answer s w turn_by qubits records bad ≡ 0
    → Passed s w qubits records bad
unfolding answer
passed s w turn_by qubits records bad h =
    let a = cond_zero (ltb w s.given.size) 2 _ h in
    let b = cond_zero (not (eqb turn_by 0 || eqb turn_by 2 || eqb turn_by 4 || eqb turn_by 6)) 7 _ a.1 in
    let c = cond_zero (some (leb s.given.n) qubits) 3 _ b.1 in
    let d = cond_zero (twice qubits) 4 _ c.1 in
    let e = cond_zero (ltb s.given.capacity (length s.events + records)) 5 _ d.1 in
    let f = cond_zero bad 6 0 e.1 in
    record {
      long = ltb-false w s.given.size a.0;
      inside = c.0;
      differ = d.0;
      fits = ltb-false s.given.capacity (length s.events + records) e.0;
      fine = f.0;
    }

pub inside_Mem : (n q : ℕ) (qs : List ℕ) → some (leb n) qs ≡ false → Mem q qs → q < n
inside_Mem n q qs h m = go (leb n q) refl
  where
    go : (t : Bool) → leb n q ≡ t → q < n
    go true e = clash (some (leb n) qs) (Mem-some (leb n) q qs m e) h
    go false e = leb-false n q e

two_differ : (a b : ℕ) → twice (a ∷ b ∷ []) ≡ false → a ≢ b
unfolding twice some
two_differ a b h e = clash (twice (a ∷ b ∷ [])) (ap (λ (t : Bool). cond t true false || (false || false)) (eq-eqb a b e)) h

pub gate_Fits : (n : ℕ) (g : Gate) → some (leb n) (gate_qubits g) ≡ false → twice (gate_qubits g) ≡ false → Fits n g
unfolding gate_qubits
gate_Fits n (h_gate q) h k = inside_Mem n q (q ∷ []) h (inl refl)
gate_Fits n (x_gate q) h k = inside_Mem n q (q ∷ []) h (inl refl)
gate_Fits n (y_gate q) h k = inside_Mem n q (q ∷ []) h (inl refl)
gate_Fits n (z_gate q) h k = inside_Mem n q (q ∷ []) h (inl refl)
gate_Fits n (s_gate q) h k = inside_Mem n q (q ∷ []) h (inl refl)
gate_Fits n (sdg_gate q) h k = inside_Mem n q (q ∷ []) h (inl refl)
gate_Fits n (sx_gate q) h k = inside_Mem n q (q ∷ []) h (inl refl)
gate_Fits n (cnot_gate c t) h k = (inside_Mem n c (c ∷ t ∷ []) h (inl refl), inside_Mem n t (c ∷ t ∷ []) h (inr (inl refl)), two_differ c t k)
gate_Fits n (cz_gate c t) h k = (inside_Mem n c (c ∷ t ∷ []) h (inl refl), inside_Mem n t (c ∷ t ∷ []) h (inr (inl refl)), two_differ c t k)
gate_Fits n (swap_gate c t) h k = (inside_Mem n c (c ∷ t ∷ []) h (inl refl), inside_Mem n t (c ∷ t ∷ []) h (inr (inl refl)), two_differ c t k)
gate_Fits n (cy_gate c t) h k = (inside_Mem n c (c ∷ t ∷ []) h (inl refl), inside_Mem n t (c ∷ t ∷ []) h (inr (inl refl)), two_differ c t k)

pub Good-frame : (s : State) (f : Rows Pauli) (k : Rows Label) → Good s → Sound s.given.n f → Within s.given.n f → Follows (origin s) f k → Good (reframed f k s)
unfolding reframed list_at
Good-frame s f k g a b c = record {
  sound = a;
  within = b;
  follows = c;
  wide = g.wide;
  few = g.few;
  room = g.room;
  past = g.past;
  each = g.each;
  lists_ok = record { ok = g.lists_ok.ok };
}

pub Good-record1 : (s : State) (e : Event) → Good s → EventOk (origin s) s.given.n e → e.live ≡ true → length s.events + 1 ≤ s.given.capacity → Good (record1 e s)
unfolding record1
Good-record1 s e g k v h = record {
  sound = g.sound;
  within = g.within;
  follows = g.follows;
  wide = rw (push-length (plane s) (length s.events) e 0 s.lists) g.wide;
  few = rw (push-length (plane s) (length s.events) e 0 s.lists) g.few;
  room = rw (length_new s.events e) (omega arith);
  past = rw (length_new s.events e) (omega (arith, g.past));
  each = (λ i u. go i u (ℕ_discrete i (length s.events)));
  lists_ok = lists_record1 e s v g.lists_ok;
}
  where
    go : (i : ℕ) → i < length (s.events ++ (e ∷ [])) → Dec (i ≡ length s.events) → EventOk (origin s) s.given.n (event_at (s.events ++ (e ∷ [])) i)
    go i u (yes q) = rw (q, at_new s.events e) k
    go i u (no q) =
        let j : i < length s.events = omega (arith, length_new s.events e) in
        rw (at_old s.events e i j) (g.each i j)

abbrev pub AllOk : Rows Label → ℕ → List Event → Type 0
AllOk o n [] = Unit {0}
AllOk o n (e ∷ es) = EventOk o n e × (e.live ≡ true) × AllOk o n es

pub Good-record_all : (es : List Event) (s : State) → Good s → AllOk (origin s) s.given.n es → length s.events + length es ≤ s.given.capacity → Good (record_all es s)
unfolding record_all record1
Good-record_all [] s g k h = g
Good-record_all (e ∷ es) s g k h =
    Good-record_all es (record1 e s) (Good-record1 s e g k.0 k.1 (omega arith)) k.2 (rw (length_new s.events e) (omega arith))

pub Good-kill : (s : State) (id : ℕ) → Good s → id < length s.events → Good (kill id s)
unfolding kill killed gone
Good-kill s id g h = record {
  sound = g.sound;
  within = g.within;
  follows = g.follows;
  wide = rw (length-map s.lists (tidy s.given.form es)) g.wide;
  few = rw (length-map s.lists (tidy s.given.form es)) g.few;
  room = rw same_length g.room;
  past = rw same_length g.past;
  each = (λ i u. go i (rw same_length at u) (ℕ_discrete i id));
  lists_ok = lists_kill id s h g.lists_ok;
}
  where
    es : List Event
    es = set s.events id (killed (event_at s.events id))

    same_length : length es ≡ length s.events
    same_length = length-set s.events id (killed (event_at s.events id))

    dead_ok : (e : Event) → EventOk (origin s) s.given.n e → EventOk (origin s) s.given.n (killed e)
    dead_ok e k = record { small_x = k.small_x; small_z = k.small_z; labelled = k.labelled; signed = k.signed }

    go : (i : ℕ) → i < length s.events → Dec (i ≡ id) → EventOk (origin s) s.given.n (event_at es i)
    go i u (yes q) = rw (q, gone_at s.events id h) (dead_ok _ (g.each id h))
    go i u (no q) = rw (gone_other s.events id h i q) (g.each i u)

pub Good-clear : (s : State) → Good s → Good (clear s)
unfolding clear
Good-clear s g = record {
  sound = g.sound;
  within = g.within;
  follows = g.follows;
  wide = g.wide;
  few = g.few;
  room = g.room;
  past = omega arith;
  each = g.each;
  lists_ok = lists_clear s g.lists_ok;
}

-- the events that calls record

pub axis_ok : (s : State) (kind : Kind) (q tag : ℕ) → Good s → q < s.given.n → EventOk (origin s) s.given.n (rotation_of kind q tag s)
unfolding rotation_of
axis_ok s kind q tag g h = record {
  small_x = b.x_small;
  small_z = b.z_small;
  labelled = Follows-axis (origin s) s.frame s.sketch kind q g.follows ∙ label_of_sets (origin s) _ _ refl refl;
  signed = has_sign (axis paulis kind q s.frame) (even_axis s.given.n s.frame kind q g.sound h);
}
  where
    b : Small s.given.n (axis paulis kind q s.frame)
    b = Within-axis s.given.n kind q s.frame g.within

pub blocker_ok : (o : Rows Label) (n : ℕ) (p : Pauli) → Small n p → EventOk o n (blocker_on p)
unfolding blocker_on
blocker_ok o n p b = record { small_x = b.x_small; small_z = b.z_small; labelled = tt; signed = tt }

pub seven_ok : (o : Rows Label) (n : ℕ) (a b t : Pauli) → Small n a → Small n b → Small n t → AllOk o n (map blocker_on (seven a b t))
unfolding seven blocker_on
seven_ok o n a b t ha hb ht = (
  blocker_ok o n a ha,
  refl,
  (
    blocker_ok o n b hb,
    refl,
    (
      blocker_ok o n (times a b) (small_times n a b ha hb),
      refl,
      (
        blocker_ok o n t ht,
        refl,
        (
          blocker_ok o n (times a t) (small_times n a t ha ht),
          refl,
          (
            blocker_ok o n (times b t) (small_times n b t hb ht),
            refl,
            (blocker_ok o n (times (times a b) t) (small_times n (times a b) t (small_times n a b ha hb) ht), refl, tt),
          ),
        ),
      ),
    ),
  ),
)

or-false : (a b : Bool) → (a || b) ≡ false → (a ≡ false) × (b ≡ false)
or-false true b h = absurd (true≢false h)
or-false false b h = (refl, h)

pub kill_there : (es : List Event) (id : ℕ) → not_killable es id ≡ false → id < length es
unfolding not_killable not_readable
kill_there es id h = leb-false (length es) id (or-false (leb (length es) id) _ (or-false (leb (length es) id || not (is_rotation (event_at es id).body)) _ h).0).0

-- ---- an accepted opening

pub record Opens (o : Opening) : Type 0 where
  pub some_qubit : o.n ≢ 0
  pub frame_fits : 4 * o.n * words o.n ≤ 2 ^ 25
  pub steps_fit : o.allowance ≤ 2 ^ 20
  pub narrow : is_too_wide o.form o.n ≡ false
  pub some_event : o.capacity ≢ 0
  pub events_fit : 2 * words o.n * o.capacity ≤ 2 ^ 25
  pub labels_fit : length o.label_words ≡ 4 * o.n
  pub store_fits : need o.n o.capacity o.form ≤ o.size

-- what the answer 0 says
pub opens : (o : Opening) → open_answer o ≡ 0 → Opens o
unfolding open_answer open_number
opens o h =
    let n : ℕ = o.n in
    let a = cond_zero (eqb n 0 || ltb (2 ^ 25) (4 * n * words n) || ltb (2 ^ 20) o.allowance || is_too_wide o.form n) 0 _ h in
    let b = cond_zero (eqb o.capacity 0 || ltb (2 ^ 25) (2 * words n * o.capacity)) 1 _ a.1 in
    let c = cond_zero (not (eqb (length o.label_words) (4 * n)) || ltb o.size (need n o.capacity o.form)) 2 0 b.1 in
    let d = or-false (eqb n 0 || ltb (2 ^ 25) (4 * n * words n) || ltb (2 ^ 20) o.allowance) (is_too_wide o.form n) a.0 in
    let e = or-false (eqb n 0 || ltb (2 ^ 25) (4 * n * words n)) (ltb (2 ^ 20) o.allowance) d.0 in
    let f = or-false (eqb n 0) (ltb (2 ^ 25) (4 * n * words n)) e.0 in
    let g = or-false (eqb o.capacity 0) (ltb (2 ^ 25) (2 * words n * o.capacity)) b.0 in
    let i = or-false (not (eqb (length o.label_words) (4 * n))) (ltb o.size (need n o.capacity o.form)) c.0 in
    record {
      some_qubit = eqb-false n 0 f.0;
      frame_fits = ltb-false (2 ^ 25) (4 * n * words n) f.1;
      steps_fit = ltb-false (2 ^ 20) o.allowance e.1;
      narrow = d.1;
      some_event = eqb-false o.capacity 0 g.0;
      events_fit = ltb-false (2 ^ 25) (2 * words n * o.capacity) g.1;
      labels_fit = eqb-true (length o.label_words) (4 * n) (not-false (eqb (length o.label_words) (4 * n)) i.0);
      store_fits = ltb-false o.size (need n o.capacity o.form) i.1;
    }

empty_ok : (l : ℕ) (f : Form) (b : ℕ) → ListOk l f [] b []
unfolding dead keep
empty_ok l f b = record {
  rising = tt;
  bound = (λ i m. absurd m);
  support = (λ i m. absurd m);
  whole = (λ i h a w. absurd (not-suc-le-zero h));
  share = zeroth (factor f);
}
  where
    zeroth : (k : ℕ) → k * 0 ≤ 0
    zeroth k = omega arith

count_wide : (form : Form) (n : ℕ) → n ≢ 0 → is_too_wide form n ≡ false → n ≤ words n * list_count form n
unfolding words list_count is_too_wide
count_wide scalar n h k = omega arith
count_wide sliced n h k = rw one (omega arith)
  where
    small : n ≤ 32
    small = ltb-false 32 n k

    one : (n + 63) / 64 ≡ 1
    one = omega (arith, small)

count_few : (form : Form) (n : ℕ) → is_too_wide form n ≡ false → list_count form n ≤ limit form
unfolding list_count limit is_too_wide
count_few scalar n k = omega arith
count_few sliced n k = ltb-false 32 n k

pub Good-open : (o : Opening) → open_answer o ≡ 0 → Good (opened o)
unfolding opened list_at
Good-open o h = record {
  sound = Sound-fresh o.n;
  within = Within-fresh o.n;
  follows = Follows-fresh (label_rows o.label_words) o.n (label_rows-length o.label_words o.n q.labels_fit).0 (label_rows-length o.label_words o.n q.labels_fit).1;
  wide = rw (length-replicate {A = List ℕ} count []) (count_wide o.form o.n q.some_qubit q.narrow);
  few = rw (length-replicate {A = List ℕ} count []) (count_few o.form o.n q.narrow);
  room = omega arith;
  past = omega arith;
  each = (λ i u. absurd (not-suc-le-zero u));
  lists_ok = record {
    ok = (λ b u.
        subst (ListOk (words o.n) o.form [] b) (sym (get_or-replicate count b [] [] (rw (length-replicate {A = List ℕ} count []) at u))) (empty_ok (words o.n) o.form b));
  };
}
  where
    q : Opens o
    q = opens o h

    count : ℕ
    count = list_count o.form o.n

-- ---- every call

Good-after : (s : State) (c : Call) (w : ℕ) → Good s → answer_to c w s ≡ 0 → Good (effect c w s)
unfolding effect answer_to
Good-after s (call_open n E A form ws) w g h = Good-open (opening n E A form ws w) h
Good-after s (call_gate t) w g h =
    let a : Passed s w (gate_qubits t) 0 false = passed s w 0 (gate_qubits t) 0 false h in
    Good-frame s _ _ g (Sound-gate s.given.n s.frame t g.sound (gate_Fits s.given.n t a.inside a.differ))
    (Within-gate s.given.n t s.frame g.within) (Follows-gate (origin s) s.frame s.sketch t g.follows)
Good-after s (call_turn kind k q) w g h =
    let a : Passed s w (q ∷ []) 0 false = passed s w k (q ∷ []) 0 false h in
    Good-frame s _ _ g (Sound-turn s.given.n s.frame kind k q g.sound (inside_Mem s.given.n q (q ∷ []) a.inside (inl refl)))
    (Within-turn s.given.n kind k q s.frame g.within) (Follows-turn (origin s) s.frame s.sketch kind k q g.follows)
Good-after s (call_record kind q tag) w g h =
    let a : Passed s w (q ∷ []) 1 false = passed s w 0 (q ∷ []) 1 false h in
    Good-record1 s (rotation_of kind q tag s) g (axis_ok s kind q tag g (inside_Mem s.given.n q (q ∷ []) a.inside (inl refl))) (unfold rotation_of in refl) a.fits
Good-after s (call_measure q) w g h =
    Good-record1 s _ g (blocker_ok (origin s) s.given.n _ (g.within.all_z q)) (unfold blocker_on in refl) (passed s w 0 (q ∷ []) 1 false h).fits
Good-after s (call_reset q) w g h =
    Good-record_all (blocker_on (z_at paulis s.frame q) ∷ blocker_on (x_at paulis s.frame q) ∷ []) s g
    (blocker_ok (origin s) s.given.n _ (g.within.all_z q), (unfold blocker_on in refl), (blocker_ok (origin s) s.given.n _ (g.within.all_x q), (unfold blocker_on in refl), tt))
    (passed s w 0 (q ∷ []) 2 false h).fits
Good-after s (call_ccx a b t) w g h =
    Good-record_all _ s g (seven_ok (origin s) s.given.n _ _ _ (g.within.all_z a) (g.within.all_z b) (g.within.all_x t))
    (unfold seven in (passed s w 0 (a ∷ b ∷ t ∷ []) 7 false h).fits)
Good-after s (call_ccz a b t) w g h =
    Good-record_all _ s g (seven_ok (origin s) s.given.n _ _ _ (g.within.all_z a) (g.within.all_z b) (g.within.all_z t))
    (unfold seven in (passed s w 0 (a ∷ b ∷ t ∷ []) 7 false h).fits)
Good-after s (call_kill id) w g h =
    Good-kill s id g (kill_there s.events id (passed s w 0 [] 0 (not_killable s.events id) h).fine)
Good-after s (call_read id) w g h = g
Good-after s call_clear w g h = Good-clear s g
Good-after s (call_look kind q) w g h = g

pub Good-call : (s : State) (c : Call) (w : ℕ) → Good s → Good (call c w s)
unfolding call
Good-call s c w g = go (eqb (answer_to c w s) 0) refl
  where
    go : (t : Bool) → eqb (answer_to c w s) 0 ≡ t → Good (cond t (effect c w s) s)
    go true e = Good-after s c w g (eqb-true (answer_to c w s) 0 e)
    go false e = g

pub Good-calls : (cs : List Lent) (s : State) → Good s → Good (calls cs s)
unfolding calls
Good-calls [] s g = g
Good-calls (c ∷ cs) s g = Good-calls cs (call c.call c.store s) (Good-call s c.call c.store g)

-- every state that our calls can leave since an opening
pub reached : (o : Opening) → open_answer o ≡ 0 → (cs : List Lent) → Good (calls cs (opened o))
reached o h cs = Good-calls cs (opened o) (Good-open o h)
