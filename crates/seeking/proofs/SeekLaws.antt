-- The parts of a slice as the code lends them, and each way in which a kill, a clear, a read and a look end: for the functions of this crate.
-- Assumes nothing.
use mathlib.Core.Path.{◌≡◌, refl, sym, ap, ◌∙◌, subst}
use mathlib.Core.Logic.{inl, inr, ⊎_elim}
use mathlib.Core.Bool.{Bool, true, false, cond}
use mathlib.Core.List.{List, [], ◌∷◌}
use Prim.Native.Nat.{ℕ, ◌+◌, ◌-◌, ◌*◌, ◌^◌, ◌≤◌, ◌<◌}
use native.Mathlib.Omega.{arith}
use lib.ListN.{length, get_or}
use lib.IntN.{ℤ, pos, negsuc, neg_ℤ, ◌*ℤ◌}
use mir.Syntax.{w8}
use mir.Val.{of_z}
use Rattle.model.specs.Pauli.{Pauli, sign}
use Rattle.model.specs.Frame as model
use Rattle.model.specs.Frame.{Rows, axis, paulis}
use Rattle.model.specs.Sketch.{Label, labels}
use Rattle.model.specs.Events.{Body, Form, State, event_at, some, clear, kill}
use Rattle.model.specs.Search.{Walk, done, stopped, dry, walk, phase1, phase2, Look, found, sign_at, spent, looked1, looked2, look, look_for}
use Rattle.model.specs.Demands.{IsSign, HasSign}
use Rattle.model.specs.Calls.{twice, call_kill, call_clear, call_read, call_look, not_killable, not_readable, Reading, reading, answer, answer_to, Reply, refused, accepted, says, looked, reply_of, effect}
use Rattle.model.proofs.Invariant.{even_axis}
use Rattle.model.proofs.Products.{has_sign}
use Rattle.model.proofs.Within.{Within-axis}
use Rattle.pauli.specs.Rows as rows
use Rattle.pauli.specs.Rows.{of_row}
use Rattle.std.proofs.Common.{Option, Some, None, Result, Ok, Err, IsOk, IsErrOf, is_ok}
use Rattle.pauli.proofs.Signs.{sign_cases, bits8, bits8_sign}
use Rattle.pauli.proofs.Words.{rest_length}
use Rattle.frame.specs.Places as frames
use Rattle.frame.specs.Places.{IsRow}
use Rattle.frame.specs.Axes.{kind_of, tag_of}
use Rattle.frame.specs.declared.axes.Kind.{Kind}
use Rattle.frame.specs.declared.axes.Kind.TheVariants as kinds
use Rattle.frame.specs.declared.axes.Tag.{Tag}
use Rattle.frame.proofs.AxisLaws.{behind, row-behind, is_sign, some_sign}
use Rattle.history.specs.Words.{body_word, Holds, Sane, Becomes}
use Rattle.history.specs.Sizes.{form_of}
use Rattle.history.specs.Readings.{rotation_of}
use Rattle.history.specs.Phases.{label_of, look_of}
use Rattle.pauli.specs.declared.corrupt.Corrupt.{Corrupt}
use Rattle.history.specs.declared.kill.KillError.{KillError}
use Rattle.history.specs.declared.kill.KillError.TheVariants as kill_error
use Rattle.store.specs.Refusals.{code_of, kill_refusal}
use Rattle.history.specs.declared.events.Rotation.{Rotation}
use Rattle.history.specs.declared.findings.Look as seen
use Rattle.history.specs.declared.findings.Found.TheVariants as found_here
use Rattle.history.proofs.EventLaws.{rotation_Tells}
use Rattle.history.proofs.LookLaws.{sign_bits, stopped_there}
use Rattle.store.specs.declared.header.Sizes.{Sizes}
use Rattle.store.specs.declared.refusals.Refusal.{Refusal}
use Rattle.store.specs.declared.refusals.Refusal.TheVariants as refusal
use Rattle.store.specs.Stores.{Stored, Held, StoredTo}
use Rattle.store.specs.Checks.{Fit}
use Rattle.store.specs.Promises.{number, turn_known, told_read, told_look, seen_of, qubit_number, Answers, Meets}
use Rattle.store.proofs.QubitLaws.{single_out, single_in}
use Rattle.store.proofs.SizeLaws.{Own, own}
use Rattle.store.proofs.StoreLaws.{killed_to, cleared_to}
use Rattle.store.proofs.AnswerLaws.{answer_last, last_named, numbered}
use Rattle.store.proofs.LentLaws.{Held-Good, Held-Sane, lent, lent_frames, back, room_is, lent-Holds, frames-Held, back-length, back_same, back_place, history_fits, as_history}
use Rattle.store.proofs.MeetLaws.{refuse_Answers, accept_Answers, nine_Answers, refuse_Meets, nine_Meets, accept_Meets}
use Rattle.history.specs.declared.findings.Found.{Found}
use Rattle.seeking.specs.Sights.{SignSeen, found_of, sight_of}

-- ---- the answer of a call that records nothing

module _ (z : Sizes) (s : List ℕ) (fit : Fit z s) where
  room_for : (m : State) → Stored m s → length m.events + 0 ≤ m.given.capacity
  room_for m h = omega (arith, h.history.room)

  -- .. and names no qubit: whether it can name its event
  answer_event : (m : State) → Stored m s → (bad : Bool) → answer m (length s) 0 [] 0 bad ≡ cond bad 7 0
  unfolding turn_known qubit_number some twice
  answer_event m h bad = answer_last m (length s) 0 [] 0 bad h.long refl refl ∙ last_named m 0 bad (room_for m h)

  -- .. or one qubit
  answer_in : (m : State) → Stored m s → (q : ℕ) → q < z.n → answer m (length s) 0 (q ∷ []) 0 false ≡ 0
  unfolding turn_known
  answer_in m h q l = numbered m s 0 (q ∷ []) h refl ∙ sym (single_in m.given.n q (omega (arith, l, (own z m s fit h).qubits)))

  answer_out : (m : State) → Stored m s → (q : ℕ) → z.n ≤ q → answer m (length s) 0 (q ∷ []) 0 false ≡ 4
  unfolding turn_known
  answer_out m h q l = numbered m s 0 (q ∷ []) h refl ∙ sym (single_out m.given.n q (omega (arith, l, (own z m s fit h).qubits)))

-- ---- a kill

-- the history's part came back as ys
module _ (z : Sizes) (s : List ℕ) (fit : Fit z s) (ys : List ℕ) where
  back_killed : (id : ℕ) (m : State) → Stored m s → Becomes (form_of z.form) z.n z.cap z.l (kill id m) (lent z s) ys → StoredTo (kill id m) s (back z s ys)
  back_killed id m h q =
      let o : Own z m = own z m s fit h in
      subst (λ (t : List ℕ). StoredTo (kill id m) s t) (sym (back_place z s fit ys))
      (killed_to (form_of z.form) z.n z.cap z.l m s ys (z.end - z.at) o.form o.qubits o.capacity o.planes id h (room_is z s fit) (history_fits z s fit ys)
      (as_history z s fit ys (kill id m) q))

  back_cleared : (m : State) → Stored m s → Becomes (form_of z.form) z.n z.cap z.l (clear m) (lent z s) ys → StoredTo (clear m) s (back z s ys)
  back_cleared m h q =
      let o : Own z m = own z m s fit h in
      subst (λ (t : List ℕ). StoredTo (clear m) s t) (sym (back_place z s fit ys))
      (cleared_to (form_of z.form) z.n z.cap z.l m s ys (z.end - z.at) o.form o.qubits o.capacity o.planes h (room_is z s fit) (history_fits z s fit ys)
      (as_history z s fit ys (clear m) q))

  -- a kill, by what `history` answered
  module _ (id : ℕ) (r : Result (Unit {0}) KillError) (long : length ys ≡ length (lent z s))
      (refuses : (m : State) → Holds (form_of z.form) z.n z.cap z.l m (lent z s) → Sane m → not_killable m.events id ≡ true → IsErrOf r kill_error.NoSuchEvent × (ys ≡ lent z s))
      (does : (m : State) → Holds (form_of z.form) z.n z.cap z.l m (lent z s) → Sane m → not_killable m.events id ≡ false
      → IsOk r × Becomes (form_of z.form) z.n z.cap z.l (kill id m) (lent z s) ys) where
    -- "0: done"
    pub kill-Done : (u : Unit {0}) → r ≡ Ok u → Meets (call_kill id) s accepted (back z s ys)
    unfolding number answer_to reply_of effect
    kill-Done u e = accept_Meets (call_kill id) s fit.framing.enough accepted refl (back z s ys) (back-length z s fit ys long) (λ m held.
        let h = lent-Holds z s fit m held.stored in
        let k = go m h (Held-Sane m s held) (not_killable m.events id) refl in
        (answer_event z s fit m held.stored (not_killable m.events id) ∙ ap (λ (b : Bool). cond b 7 0) k.0, refl, back_killed id m held.stored k.1))
      where
        go : (m : State) → Holds (form_of z.form) z.n z.cap z.l m (lent z s) → Sane m → (b : Bool) → not_killable m.events id ≡ b
            → (not_killable m.events id ≡ false) × Becomes (form_of z.form) z.n z.cap z.l (kill id m) (lent z s) ys
        go m h g true q = let s = (refuses m h g q).0 in cc
        go m h g false q = (q, (does m h g q).1)

    -- "7: no such event, a blocker, or dead"
    pub kill_refused : r ≡ Err kill_error.NoSuchEvent → ys ≡ lent z s → Meets (call_kill id) s (refused 7) (back z s ys)
    unfolding answer_to
    kill_refused e same = subst (Meets (call_kill id) s (refused 7)) (sym (back_same z s fit ys same)) (refuse_Meets (call_kill id) s fit.framing.enough 6 (omega arith) (λ m held.
        answer_event z s fit m held.stored (not_killable m.events id)
        ∙ ap (λ (b : Bool). cond b 7 0) (go m (lent-Holds z s fit m held.stored) (Held-Sane m s held) (not_killable m.events id) refl)))
      where
        go : (m : State) → Holds (form_of z.form) z.n z.cap z.l m (lent z s) → Sane m → (b : Bool) → not_killable m.events id ≡ b → not_killable m.events id ≡ true
        go m h g true q = q
        go m h g false q = let s = (does m h g q).0 in cc (ap is_ok e)

    -- a stored value is bad: no state is held
    pub kill_bad : r ≡ Err kill_error.Corrupt → Meets (call_kill id) s (refused 9) (back z s ys)
    kill_bad e = nine_Meets (call_kill id) s fit.framing.enough (back z s ys) (back-length z s fit ys long) (λ m held.
        go m (lent-Holds z s fit m held.stored) (Held-Sane m s held) (not_killable m.events id) refl)
      where
        go : (m : State) → Holds (form_of z.form) z.n z.cap z.l m (lent z s) → Sane m → (b : Bool) → not_killable m.events id ≡ b → ⊥
        go m h g true q = let s = (refuses m h g q).0 in cc
        go m h g false q = let s = (does m h g q).0 in cc (ap is_ok e)

    -- an error, as the refusal that it becomes
    pub kill_failed : (k : KillError) → r ≡ Err k → (r ≡ Err kill_error.NoSuchEvent → ys ≡ lent z s) → Meets (call_kill id) s (refused (code_of (kill_refusal k))) (back z s ys)
    kill_failed kill_error.NoSuchEvent e kept = kill_refused e (kept e)
    kill_failed kill_error.Corrupt e kept = kill_bad e

  -- ---- a clear

  pub clear_done : length ys ≡ length (lent z s)
      → ((f : Form) (n cap l : ℕ) (m : State) → Holds f n cap l m (lent z s) → Becomes f n cap l (clear m) (lent z s) ys) → Meets call_clear s accepted (back z s ys)
  unfolding number answer_to reply_of effect
  clear_done long does = accept_Meets call_clear s fit.framing.enough accepted refl (back z s ys) (back-length z s fit ys long) (λ m held. (
    answer_event z s fit m held.stored false,
    refl,
    back_cleared m held.stored (does (form_of z.form) z.n z.cap z.l m (lent-Holds z s fit m held.stored)),
  ))

-- ---- a read

told_reading : (v : Reading) (w : Rotation) → w ≡ rotation_of v → says (record { tag = w.tag; sgn = w.sign; live = w.live }) ≡ says v
unfolding rotation_of
told_reading v w e = ap (λ (r : Rotation). says (record { tag = r.tag; sgn = r.sign; live = r.live })) e

module _ (z : Sizes) (s : List ℕ) (fit : Fit z s) (id : ℕ) (r : Result (Option Rotation) Corrupt)
    (nothing : (f : Form) (n : ℕ) (m : State) → Holds f n z.cap z.l m (lent z s) → Sane m → not_readable m.events id ≡ true → r ≡ Ok None)
    (tells : (f : Form) (n : ℕ) (m : State) → Holds f n z.cap z.l m (lent z s) → Sane m → not_readable m.events id ≡ false → r ≡ Ok (Some (rotation_of (reading m.events id)))) where
  abbrev Reads : State → Bool → Type 0
  Reads m true = r ≡ Ok None
  Reads m false = r ≡ Ok (Some (rotation_of (reading m.events id)))

  -- on a state that is held
  reads : (m : State) → Held m s → (b : Bool) → not_readable m.events id ≡ b → Reads m b
  reads m held true q = nothing (form_of z.form) z.n m (lent-Holds z s fit m held.stored) (Held-Sane m s held) q
  reads m held false q = tells (form_of z.form) z.n m (lent-Holds z s fit m held.stored) (Held-Sane m s held) q

  pub read_Says : (w : Rotation) → r ≡ Ok (Some w) → Answers (call_read id) s (told_read (Ok w))
  unfolding answer_to reply_of number told_read
  read_Says w e = accept_Answers (call_read id) s fit.framing.enough _ (omega arith) (λ m held.
      let k = go m (not_readable m.events id) refl (reads m held (not_readable m.events id) refl) in (
        answer_event z s fit m held.stored (not_readable m.events id) ∙ ap (λ (b : Bool). cond b 7 0) k.0,
        told_reading (reading m.events id) w k.1,
      ))
    where
      go : (m : State) (b : Bool) → not_readable m.events id ≡ b → Reads m b → (not_readable m.events id ≡ false) × (w ≡ rotation_of (reading m.events id))
      go m true q w = cc
      go m false q w = (q, cc)

  -- "7: no such event or a blocker"
  pub read_nothing : r ≡ Ok None → Answers (call_read id) s (refused 7)
  unfolding answer_to
  read_nothing e = refuse_Answers (call_read id) s fit.framing.enough 6 (omega arith) (λ m held.
      answer_event z s fit m held.stored (not_readable m.events id)
      ∙ ap (λ (b : Bool). cond b 7 0) (go m (not_readable m.events id) refl (reads m held (not_readable m.events id) refl)))
    where
      go : (m : State) (b : Bool) → not_readable m.events id ≡ b → Reads m b → not_readable m.events id ≡ true
      go m true q w = q
      go m false q w = cc

  -- a stored value is bad: no state is held
  pub read_bad : (x : Corrupt) → r ≡ Err x → Answers (call_read id) s (refused 9)
  read_bad x e = nine_Answers (call_read id) s fit.framing.enough (λ m held.
      go m (not_readable m.events id) (reads m held (not_readable m.events id) refl))
    where
      go : (m : State) (b : Bool) → Reads m b → ⊥
      go m true w = cc
      go m false w = cc

-- ---- a look

-- the sign that a partner keeps, and the row's own: r is what is told of the row's sign
module _ (row : List ℕ) (r : Option ℤ) (signs : (l : ℕ) (p : Pauli) → length row ≡ 2 * l + 1 → IsRow l row 0 p → r ≡ rows.answer (sign p)) (id n : ℕ) (kept : ℤ) where
  abbrev Relative : Result seen.Look Refusal → Type 0
  Relative v = (l : ℕ) (p : Pauli) → length row ≡ 2 * l + 1 → IsRow l row 0 p → HasSign p → IsSign kept → told_look v ≡ looked (found id (kept *ℤ sign p) n)

  -- "0 gives +1, 2 gives -1, and 1 or 3 never occurs"
  pub Relative-none : r ≡ None → Relative (Err refusal.Corrupt)
  Relative-none e l p long i s t = absurd (some_sign (sign p) s (sym e ∙ signs l p long i))

  module _ (own : ℤ) (signed : IsSign own) (e : r ≡ Some own) where
    Relative-is : (both : ℤ) → (IsSign kept → both ≡ kept *ℤ own) → Relative (Ok (record { found = found_here.Partner id both; steps = n }))
    unfolding told_look seen_of
    Relative-is both f l p long i s t = ap (λ (k : ℤ). looked (found id k n)) (f t ∙ ap (λ (k : ℤ). kept *ℤ k) (is_sign (sign p) own s (sym e ∙ signs l p long i)))

    pub Relative-same : of_z w8 kept ≡ 1 → Relative (Ok (record { found = found_here.Partner id (bits8 own); steps = n }))
    Relative-same k = Relative-is (bits8 own) (λ t.
        sign_cases (λ (a : ℤ). of_z w8 a ≡ 1 → bits8 own ≡ a *ℤ own) (λ u. sign_cases (λ (b : ℤ). bits8 b ≡ pos 1 *ℤ b) refl refl own signed)
        (λ u. let v : ◌≡◌ {A = ℕ} 255 1 = u in absurd (omega arith)) kept t k)

    pub Relative-other : (other : ℤ) → other ≡ neg_ℤ (bits8 own) → IsSign other → (of_z w8 kept ≡ 1 → ⊥) → Relative (Ok (record { found = found_here.Partner id (bits8 other); steps = n }))
    Relative-other other o s k = Relative-is (bits8 other) (λ t.
        bits8_sign other s ∙ o
        ∙ sign_cases (λ (a : ℤ). (of_z w8 a ≡ 1 → ⊥) → neg_ℤ (bits8 own) ≡ a *ℤ own) (λ u. absurd (u refl))
        (λ u. sign_cases (λ (b : ℤ). neg_ℤ (bits8 b) ≡ negsuc 0 *ℤ b) refl refl own signed) kept t k)

-- a partner that was found: its sign is what the machine reads off its bits
pub sight_Found : (v : seen.Look) (id : ℕ) (g h : ℤ) (a : Reply) → v.found ≡ found_here.Partner id g → SignSeen v
    → (IsSign (bits8 g) → a ≡ looked (found id (bits8 g *ℤ h) v.steps)) → a ≡ sight_of h v
unfolding sight_of found_of
sight_Found v id g h a e s f =
    let t : IsSign g = rw e at s in
    f (sign_bits g t) ∙ ap (λ (k : ℤ). looked (found id (k *ℤ h) v.steps)) (bits8_sign g t) ∙ sym (ap (λ (w : Found). looked (found_of h w v.steps)) e)

-- and what is no partner has no sign
pub other_seen : (g : ℤ) (v : seen.Look) → ((id : ℕ) (k : ℤ) → v.found ≡ found_here.Partner id k → ⊥) → told_look (Ok v) ≡ sight_of g v
unfolding sight_of told_look seen_of found_of
other_seen g v h = ap looked (go v.found h)
  where
    go : (f : Found) → ((id : ℕ) (k : ℤ) → f ≡ found_here.Partner id k → ⊥) → seen_of f v.steps ≡ found_of g f v.steps
    go (found_here.Partner id k) h = absurd (h id k refl)
    go found_here.Nothing h = refl
    go found_here.Blocked h = refl
    go found_here.OutOfSteps h = refl

-- A look for the axis taken with the sign +1, and one for the axis with the sign g: a partner has the sign that it keeps in the first, and its
-- product with g in the second.
module _ (m : State) (sane : Sane m) (g : ℤ) (a : Label) (x z : ℕ) where
  abbrev Turned : Look → Look → Type 0
  Turned v w = SignSeen (look_of v) × (sight_of g (look_of v) ≡ looked w)

  turned2 : (id : ℕ) → IsSign (sign_at (event_at m.events id).body) → (w : Walk) → Turned (looked2 m (pos 1) id w) (looked2 m g id w)
  unfolding looked2 look_of sight_of found_of
  turned2 id s (done left) =
      sign_cases (λ (k : ℤ). IsSign (k *ℤ pos 1) × (looked (found id (k *ℤ pos 1 *ℤ g) (spent m left)) ≡ looked (found id (k *ℤ g) (spent m left))))
      (inl refl, refl) (inr refl, refl) (sign_at (event_at m.events id).body) s
  turned2 id s (stopped j left) = (tt, refl)
  turned2 id s (dry left) = (tt, refl)

  turned1 : (w : Walk) → walk (phase1 m a x z) m.given.allowance ≡ w → Turned (looked1 m (pos 1) x z w) (looked1 m g x z w)
  unfolding looked1 look_of sight_of found_of
  turned1 (done left) e = (tt, refl)
  turned1 (stopped id left) e =
      let there = stopped_there m a x z m.given.allowance id left e in
      let b : Body = (event_at m.events id).body in
      turned2 id (⊎_elim (λ u. inl u.1) (λ u. inr u.1) (rotation_Tells (body_word b) b refl (sane.signs id there.0) there.1).sgn) (walk (phase2 m id x z) left)
  turned1 (dry left) e = (tt, refl)

  look_Turned : Turned (look_for m (pos 1) a x z) (look_for m g a x z)
  unfolding look_for
  look_Turned = turned1 (walk (phase1 m a x z) m.given.allowance) refl

same_ok : (v w : seen.Look) → ◌≡◌ {A = Result seen.Look Corrupt} (Ok v) (Ok w) → v ≡ w
same_ok v w e = cc

same_look : (m : State) (g : ℤ) (a b : Label) (x y u w : ℕ) → a ≡ b → x ≡ y → u ≡ w → look_for m g a x u ≡ look_for m g b y w
same_look m g a b x y u w f i j = rw (f, i, j) refl

-- the words behind a row's phase
pub row-length : (l : ℕ) (row : List ℕ) → length row ≡ 2 * l + 1 → length (behind 1 row) ≡ 2 * l
row-length l row long = omega (arith, rest_length row 1, long)

-- the look for the axis of a kind, whose row is given
module _ (z : Sizes) (s : List ℕ) (fit : Fit z s) (kind : model.Kind) (q : ℕ) (inside : q < z.n) (row : List ℕ) (long : length row ≡ 2 * z.l + 1) where
  axis_signed : (m : State) → Held m s → HasSign (axis paulis kind q m.frame)
  axis_signed m h =
      let l : q < m.given.n = omega (arith, inside, (own z m s fit h.stored).qubits) in
      has_sign (axis paulis kind q m.frame) (even_axis m.given.n m.frame kind q (Held-Good m s h).sound l)

  -- r is the history's answer for the axis taken with the sign +1
  module _ (t : Tag) (tags : (f : Rows Pauli) (k : Rows Label) → frames.Held z.n z.l f k (lent_frames z s) → tag_of t ≡ axis labels kind q k) (r : Result seen.Look Corrupt)
      (seen_is : (m : State) → Holds (form_of z.form) z.n z.cap z.l m (lent z s) → Sane m → m.given.allowance ≡ z.allowance
      → (of_row 0 (behind 1 row)).x < 2 ^ z.n → (of_row 0 (behind 1 row)).z < 2 ^ z.n
      → r ≡ Ok (look_of (look_for m (pos 1) (label_of t.high t.low) (of_row 0 (behind 1 row)).x (of_row 0 (behind 1 row)).z))) where
    history_saw : (m : State) → Held m s → IsRow z.l row 0 (axis paulis kind q m.frame)
        → r ≡ Ok (look_of (look_for m (pos 1) (axis labels kind q m.sketch) (axis paulis kind q m.frame).x (axis paulis kind q m.frame).z))
    unfolding of_row tag_of label_of
    history_saw m h i =
        let p : Pauli = axis paulis kind q m.frame in
        let o : Own z m = own z m s fit h.stored in
        let same : of_row (get_or row 0 0) (behind 1 row) ≡ p = row-behind z.l row p long i in
        let x_same : (of_row 0 (behind 1 row)).x ≡ p.x = ap (λ (k : Pauli). k.x) same in
        let z_same : (of_row 0 (behind 1 row)).z ≡ p.z = ap (λ (k : Pauli). k.z) same in
        let b = Within-axis m.given.n kind q m.frame (Held-Good m s h).within in
        let x_small : (of_row 0 (behind 1 row)).x < 2 ^ z.n = subst (λ (k : ℕ). (of_row 0 (behind 1 row)).x < 2 ^ k) o.qubits (subst (λ (k : ℕ). k < 2 ^ m.given.n) (sym x_same) b.x_small) in
        let z_small : (of_row 0 (behind 1 row)).z < 2 ^ z.n = subst (λ (k : ℕ). (of_row 0 (behind 1 row)).z < 2 ^ k) o.qubits (subst (λ (k : ℕ). k < 2 ^ m.given.n) (sym z_same) b.z_small) in
        let label : Label = axis labels kind q m.sketch in
        let l_same : label_of t.high t.low ≡ label = tags m.frame m.sketch (frames-Held z s fit m h.stored) in
        seen_is m (lent-Holds z s fit m h.stored) (Held-Sane m s h) o.allowance x_small z_small
        ∙ ap (λ (a : Look). Ok (look_of a))
        (same_look m (pos 1) (label_of t.high t.low) label (of_row 0 (behind 1 row)).x p.x (of_row 0 (behind 1 row)).z p.z l_same x_same z_same)

    -- v is what it saw, and a the answer
    pub sought_seen : (v : seen.Look) → r ≡ Ok v → (a : Reply) → ((l : ℕ) (p : Pauli) → length row ≡ 2 * l + 1 → IsRow l row 0 p → HasSign p → SignSeen v → a ≡ sight_of (sign p) v)
        → (m : State) → Held m s → IsRow z.l row 0 (axis paulis kind q m.frame) → a ≡ looked (look kind q m)
    unfolding look
    sought_seen v is a turns m h i =
        let p : Pauli = axis paulis kind q m.frame in
        let e : v ≡ look_of (look_for m (pos 1) (axis labels kind q m.sketch) p.x p.z) = same_ok v _ (sym is ∙ history_saw m h i) in
        let w = look_Turned m (Held-Sane m s h) (sign p) (axis labels kind q m.sketch) p.x p.z in
        turns z.l p long i (axis_signed m h) (subst SignSeen (sym e) w.0) ∙ ap (sight_of (sign p)) e ∙ w.1

    -- a stored value is bad: no state is held
    pub sought_bad : (x : Corrupt) → r ≡ Err x → (m : State) → Held m s → IsRow z.l row 0 (axis paulis kind q m.frame) → ⊥
    sought_bad x is m h i = let w = history_saw m h i in cc

pub look_y : (kind : Kind) (q : ℕ) (a : Reply) (m : State) → kind ≡ kinds.Y → a ≡ looked (look model.kind_y q m) → a ≡ looked (look (kind_of kind) q m)
unfolding kind_of
look_y kind q a m e h = h ∙ sym (ap (λ (k : Kind). looked (look (kind_of k) q m)) e)

-- the answers of a look
module _ (z : Sizes) (s : List ℕ) (fit : Fit z s) (kind : model.Kind) (q : ℕ) where
  -- "4: a qubit is n or more"
  pub look_out : z.n ≤ q → Answers (call_look kind q) s (refused 4)
  unfolding answer_to
  look_out l = refuse_Answers (call_look kind q) s fit.framing.enough 3 (omega arith) (λ m held. answer_out z s fit m held.stored q l)

  pub look-Says : q < z.n → (a : Reply) → number a ≤ 9 → ((m : State) → Held m s → a ≡ looked (look kind q m)) → Answers (call_look kind q) s a
  unfolding answer_to reply_of
  look-Says l a few h = accept_Answers (call_look kind q) s fit.framing.enough a few (λ m held. (answer_in z s fit m held.stored q l, h m held))
