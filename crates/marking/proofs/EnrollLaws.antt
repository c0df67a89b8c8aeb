-- Laws of the call that records: its answer, and each way in which it ends. Assumes nothing.
use mathlib.Core.Path.{◌≡◌, refl, sym, ap, ◌∙◌, subst}
use mathlib.Core.Bool.{Bool, true, false, true≢false}
use mathlib.Core.List.{List}
use Prim.Native.Nat.{ℕ, zero, suc, ◌+◌, ◌≤◌, ◌<◌}
use native.Mathlib.Nat.{add-zero}
use native.Mathlib.Omega.{arith}
use lib.ListN.{length, get_or}
use Rattle.model.specs.Events.{Form, State, record_all}
use Rattle.model.specs.Calls.{answer_to, answer, refused, recorded, reply_of}
use Rattle.history.specs.Words.{history_room}
use Rattle.history.specs.Sizes.{form_of}
use Rattle.store.specs.declared.header.Sizes.{Sizes}
use Rattle.store.specs.Stores.{history_place, Stored, Held, StoredTo}
use Rattle.store.specs.Promises.{turn_known, number, qubit_number, Meets}
use Rattle.store.specs.Checks.{Fit}
use Rattle.store.proofs.Splice.{part_at}
use Rattle.store.proofs.SizeLaws.{Own, own}
use Rattle.store.proofs.StoreLaws.{history_at}
use Rattle.store.specs.declared.refusals.Refusal.{Refusal}
use Rattle.store.specs.Refusals.{code_of}
use Rattle.store.proofs.AnswerLaws.{code_some, qubit_small, last_number, answer_qubits, answer_last, last_full, last_named}
use Rattle.store.proofs.MeetLaws.{Reached-Good, refuse_Meets, nine_Meets, accept_Meets}
use Rattle.marking.specs.Marks.{call_of, qubits_of, records_of, events_of, Records}
use Rattle.marking.specs.declared.events.Mark.{Mark}
use Rattle.marking.specs.declared.events.Mark.TheVariants.{Rotation, Measure, Reset, Ccx, Ccz}
use Rattle.marking.proofs.StateMarks.{mark-effect, mark_count}

-- ---- the answer

mark-answer : (mark : Mark) (w : ℕ) (m : State) → answer_to (call_of mark) w m ≡ answer m w 0 (qubits_of mark) (records_of mark) false
unfolding call_of qubits_of records_of answer_to
mark-answer (Rotation kind q tag) w m = refl
mark-answer (Measure q) w m = refl
mark-answer (Reset q) w m = refl
mark-answer (Ccx a b t) w m = refl
mark-answer (Ccz a b t) w m = refl

mark_reply : (mark : Mark) (m : State) → recorded (length m.events) ≡ reply_of (call_of mark) m
unfolding call_of reply_of
mark_reply (Rotation kind q tag) m = refl
mark_reply (Measure q) m = refl
mark_reply (Reset q) m = refl
mark_reply (Ccx a b t) m = refl
mark_reply (Ccz a b t) m = refl

no_turn : turn_known 0 ≡ true
unfolding turn_known
no_turn = refl

pub few_records : (mark : Mark) → records_of mark ≤ 7
unfolding records_of
few_records (Rotation kind q tag) = omega arith
few_records (Measure q) = omega arith
few_records (Reset q) = omega arith
few_records (Ccx a b t) = omega arith
few_records (Ccz a b t) = omega arith

-- ---- the history's first word

pub some_room : (f : Form) (n cap l : ℕ) → 2 ≤ history_room f n cap l
unfolding history_room
some_room f n cap l = omega arith

pub word_there : (z : Sizes) (s : List ℕ) → Fit z s → z.at < length s
word_there z s f = omega (arith, f.begins, f.ends, f.fits, some_room (form_of z.form) z.n z.cap z.l)

event_word : (z : Sizes) (s : List ℕ) → Fit z s → (m : State) → Stored m s → get_or s z.at 0 ≡ length m.events
event_word z s f m h =
    let o : Own z m = own z m s f h in
    let room : ℕ = history_room (form_of z.form) z.n z.cap z.l in
    let e : z.at ≡ history_place z.n z.l + 0 = f.begins ∙ sym (add-zero (history_place z.n z.l)) in
    ap (λ (k : ℕ). get_or s k 0) e
    ∙ sym (part_at (history_place z.n z.l) room s (omega (arith, f.ends, f.fits)) 0 (omega (arith, some_room (form_of z.form) z.n z.cap z.l)))
    ∙ (history_at (form_of z.form) z.n z.cap z.l m s o.form o.qubits o.capacity o.planes h).count

-- ---- each way in which the call ends

module _ (z : Sizes) (s : List ℕ) (mark : Mark) (f : Fit z s) where
  own_number : (m : State) → Stored m s → (k : ℕ) → k ≡ qubit_number z.n (qubits_of mark) → qubit_number m.given.n (qubits_of mark) ≡ k
  own_number m h k e = ap (λ (n : ℕ). qubit_number n (qubits_of mark)) (own z m s f h).qubits ∙ sym e

  -- "4: a qubit is n or more", "5: one gate names a qubit twice"
  numbered : (k : ℕ) → k ≡ qubit_number z.n (qubits_of mark) → 1 ≤ k → Meets (call_of mark) s (refused k) s
  numbered zero e d = absurd (omega arith)
  numbered (suc k) e d =
      refuse_Meets (call_of mark) s f.framing.enough k (omega (arith, e, qubit_small z.n (qubits_of mark))) (λ m h.
      mark-answer mark (length s) m
      ∙ answer_qubits m (length s) 0 (qubits_of mark) (records_of mark) false h.stored.long no_turn k (own_number m h.stored (suc k) e))

  pub qubits_refused : (e : Refusal) → code_of e ≡ qubit_number z.n (qubits_of mark) → Meets (call_of mark) s (refused (code_of e)) s
  qubits_refused e is = numbered (code_of e) is (code_some e)

  -- there are not more events than there is room for
  pub too_many : z.cap < get_or s z.at 0 → Meets (call_of mark) s (refused 9) s
  too_many l =
      nine_Meets (call_of mark) s f.framing.enough s refl (λ m h.
      let o : Own z m = own z m s f h.stored in
      omega (arith, l, event_word z s f m h.stored, o.capacity, h.stored.history.room))

  module _ (fine : 0 ≡ qubit_number z.n (qubits_of mark)) where
    rest : (m : State) → Stored m s → answer_to (call_of mark) (length s) m ≡ last_number m (records_of mark) false
    rest m h = mark-answer mark (length s) m ∙ answer_last m (length s) 0 (qubits_of mark) (records_of mark) false h.long no_turn (own_number m h 0 fine)

    -- "6: the call records k events and events + k > E"
    pub full_refused : z.cap < get_or s z.at 0 + records_of mark → Meets (call_of mark) s (refused 6) s
    full_refused l =
        refuse_Meets (call_of mark) s f.framing.enough 5 (omega arith) (λ m h.
        rest m h.stored
        ∙ last_full m (records_of mark) false (omega (arith, l, event_word z s f m h.stored, (own z m s f h.stored).capacity)))

    module _ (t : List ℕ) (r : Bool) (long : length t ≡ length s) (room : get_or s z.at 0 + records_of mark ≤ z.cap) (done : Records (events_of mark) s r t) where
      fits : (m : State) → Stored m s → length m.events + records_of mark ≤ m.given.capacity
      fits m h = omega (arith, room, event_word z s f m h, (own z m s f h).capacity)

      to : (m : State) → Held m s → (r ≡ true) × StoredTo (record_all (events_of mark m) m) s t
      to m h = done m h.stored (Reached-Good m h.reached) (omega (arith, fits m h.stored, mark_count mark m))

      pub all_recorded : r ≡ true → Meets (call_of mark) s (recorded (get_or s z.at 0)) t
      unfolding number
      all_recorded e =
          accept_Meets (call_of mark) s f.framing.enough (recorded (get_or s z.at 0)) refl t long (λ m h. (
            rest m h.stored ∙ last_named m (records_of mark) false (fits m h.stored),
            ap recorded (event_word z s f m h.stored) ∙ mark_reply mark m,
            subst (λ (v : State). StoredTo v s t) (sym (mark-effect mark (length s) m)) (to m h).1,
          ))

      pub bad_recorded : r ≡ false → Meets (call_of mark) s (refused 9) t
      bad_recorded e = nine_Meets (call_of mark) s f.framing.enough t long (λ m h. true≢false (sym (to m h).0 ∙ e))
