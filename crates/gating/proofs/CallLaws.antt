-- How a call on the frames ends, a gate or a turn: its number, and its promise kept at each return. Assumes nothing.
use mathlib.Core.Path.{◌≡◌, refl, sym, ap, ◌∙◌, subst}
use mathlib.Core.Bool.{Bool, true, false, cond, true≢false}
use mathlib.Core.List.{List, [], ◌∷◌}
use Prim.Native.Nat.{ℕ, zero, suc, ◌+◌, ◌≤◌}
use native.Mathlib.Omega.{arith}
use lib.ListN.{length}
use Rattle.model.specs.Pauli.{Pauli}
use Rattle.model.specs.Frame.{Ops, Rows, Kind, Gate, turn, paulis}
use Rattle.model.specs.Sketch.{Label, labels}
use Rattle.model.specs.Events.{State}
use Rattle.model.specs.Calls.{Call, call_gate, call_turn, gate_qubits, answer, answer_to, accepted, refused, reply_of, reframed, effect}
use Rattle.frame.specs.Places.{applied, Does}
use Rattle.frame.specs.Places as frames
use Rattle.store.specs.Stores.{part, frame_size, Stored, StoredTo}
use Rattle.store.specs.Promises.{number, turn_known, qubit_number, Meets}
use Rattle.store.specs.Checks.{Framing}
use Rattle.store.proofs.Splice.{splice, part_length, splice-length}
use Rattle.store.proofs.SizeLaws.{Stored-Accepted, Framing-planes, frame_small, own_frame}
use Rattle.store.proofs.StoreLaws.{frames_at, reframed_to}
use Rattle.store.specs.declared.refusals.Refusal.{Refusal}
use Rattle.store.specs.Refusals.{code_of}
use Rattle.store.proofs.AnswerLaws.{answer_turn, numbered, qubit_small, code_some}
use Rattle.store.proofs.MeetLaws.{refuse_Meets, nine_Meets, accept_Meets}
use Rattle.gating.specs.Gates.{turn_number}

-- ---- the numbers

pub gate_number : (n l : ℕ) (s : List ℕ) (g : Gate) → Framing n l s → (m : State) → Stored m s → answer_to (call_gate g) (length s) m ≡ qubit_number n (gate_qubits g)
unfolding answer_to turn_known
gate_number n l s g f m h = numbered m s 0 (gate_qubits g) h refl ∙ ap (λ (i : ℕ). qubit_number i (gate_qubits g)) (own_frame n l m s f h).0

pub turn_number_lem : (n l : ℕ) (s : List ℕ) (kind : Kind) (k q : ℕ) → Framing n l s → (m : State) → Stored m s
    → answer_to (call_turn kind k q) (length s) m ≡ turn_number n k q
unfolding answer_to turn_known turn_number
turn_number_lem n l s kind k q f m h = go (turn_known k) refl
  where
    go : (b : Bool) → turn_known k ≡ b → answer m (length s) k (q ∷ []) 0 false ≡ cond (turn_known k) (qubit_number n (q ∷ [])) 8
    go true e =
        numbered m s k (q ∷ []) h e ∙ ap (λ (i : ℕ). qubit_number i (q ∷ [])) (own_frame n l m s f h).0
        ∙ sym (ap (λ (i : Bool). cond i (qubit_number n (q ∷ [])) 8) e)
    go false e = answer_turn m (length s) k (q ∷ []) 0 false h.long e ∙ sym (ap (λ (i : Bool). cond i (qubit_number n (q ∷ [])) 8) e)

-- ---- the frames' part of the slice

module _ (n l : ℕ) (s : List ℕ) (f : Framing n l s) where
  -- its words are few
  pub frames_few : frame_size n l ≤ 33686272
  frames_few = omega (arith, frame_small n l f.few (Framing-planes n l s f), f.few)

  pub planes_few : l ≤ 362
  planes_few = Framing-planes n l s f

  pub frames_long : (k : ℕ) → k ≡ frame_size n l → length (part 14 k s) ≡ frame_size n l
  frames_long k e = part_length 14 k s (omega (arith, e, f.fits)) ∙ e

-- ---- each way to end

module _ (c : Call) (n l : ℕ) (s : List ℕ) (f : Framing n l s) (N : ℕ) (numbers : (m : State) → Stored m s → answer_to c (length s) m ≡ N) where
  pub framed_refused : N ≤ 8 → (a : ℕ) → a ≡ N → 1 ≤ a → Meets c s (refused a) s
  framed_refused few zero e d = absurd (omega arith)
  framed_refused few (suc a) e d = refuse_Meets c s f.enough a (omega (arith, few, e)) (λ m h. numbers m h.stored ∙ sym e)

  module _ (F : (A : Type 0) → Ops A → Rows A → Rows A) (k : ℕ) (size : k ≡ frame_size n l) (ys : List ℕ) (ok : Bool) (same : length ys ≡ length (part 14 k s))
      (does : Does n l F (part 14 k s) ok ys) where
    there : 14 + k ≤ length s
    there = omega (arith, size, f.fits)

    long : length ys ≡ k
    long = same ∙ part_length 14 k s there

    -- the part that was lent holds the state's frames
    begin : (m : State) → Stored m s → frames.Held n l m.frame m.sketch (part 14 k s)
    begin m h =
        let e = own_frame n l m s f h in
        subst (λ (i : ℕ). frames.Held n l m.frame m.sketch (part 14 i s)) (sym size) (frames_at n l m s e.0 e.1 h)

    pub framed_done : N ≡ 0 → ((m : State) → accepted ≡ reply_of c m)
        → ((m : State) → reframed (F Pauli paulis m.frame) (F Label labels m.sketch) m ≡ effect c (length s) m) → Meets c s accepted (splice 14 k s ys)
    unfolding number
    framed_done zeroth replies effects =
        accept_Meets c s f.enough accepted refl (splice 14 k s ys) (splice-length 14 k s there ys long) (λ m h.
        let e = own_frame n l m s f h.stored in (
          numbers m h.stored ∙ zeroth,
          replies m,
          subst (λ (v : State). StoredTo v s (splice 14 k s ys)) (effects m)
              (reframed_to n l m s ys k (F Pauli paulis m.frame) (F Label labels m.sketch) e.0 e.1 size h.stored
              (omega (arith, (Stored-Accepted m s h.stored).fits, h.stored.long)) (does m.frame m.sketch (begin m h.stored)).1),
        ))

    -- a no cannot come from words that hold a state
    pub framed_nine : ok ≡ false → Meets c s (refused 9) (splice 14 k s ys)
    framed_nine e = nine_Meets c s f.enough (splice 14 k s ys) (splice-length 14 k s there ys long) (λ m h.
        true≢false (sym (does m.frame m.sketch (begin m h.stored)).0 ∙ e))

-- ---- a gate's and a turn's own

pub gate_done : (g : Gate) (n l : ℕ) (s : List ℕ) → Framing n l s → qubit_number n (gate_qubits g) ≡ 0 → (k : ℕ) → k ≡ frame_size n l → (ys : List ℕ) (ok : Bool)
    → length ys ≡ length (part 14 k s) → Does n l (applied g) (part 14 k s) ok ys → Meets (call_gate g) s accepted (splice 14 k s ys)
unfolding reply_of effect
gate_done g n l s f e k size ys ok same does =
    framed_done (call_gate g) n l s f (qubit_number n (gate_qubits g)) (gate_number n l s g f) (applied g) k size ys ok same does e (λ m. refl) (λ m. refl)

pub turn_done : (kind : Kind) (t q n l : ℕ) (s : List ℕ) → Framing n l s → turn_number n t q ≡ 0 → (k : ℕ) → k ≡ frame_size n l → (ys : List ℕ) (ok : Bool)
    → length ys ≡ length (part 14 k s) → Does n l (λ (A : Type 0) (o : Ops A). turn o kind t q) (part 14 k s) ok ys
    → Meets (call_turn kind t q) s accepted (splice 14 k s ys)
unfolding reply_of effect
turn_done kind t q n l s f e k size ys ok same does =
    framed_done (call_turn kind t q) n l s f (turn_number n t q) (turn_number_lem n l s kind t q f) (λ (A : Type 0) (o : Ops A). turn o kind t q) k size ys ok same does e
    (λ m. refl) (λ m. refl)

pub gate_nine : (n l : ℕ) (s : List ℕ) → Framing n l s → (g : Gate) (k : ℕ) → k ≡ frame_size n l → (ys : List ℕ) → length ys ≡ length (part 14 k s)
    → Does n l (applied g) (part 14 k s) false ys → Meets (call_gate g) s (refused 9) (splice 14 k s ys)
gate_nine n l s f g k size ys same does =
    framed_nine (call_gate g) n l s f (qubit_number n (gate_qubits g)) (gate_number n l s g f) (applied g) k size ys false same does refl

pub turn_nine : (n l : ℕ) (s : List ℕ) → Framing n l s → (kind : Kind) (t q k : ℕ) → k ≡ frame_size n l → (ys : List ℕ) → length ys ≡ length (part 14 k s)
    → Does n l (λ (A : Type 0) (o : Ops A). turn o kind t q) (part 14 k s) false ys → Meets (call_turn kind t q) s (refused 9) (splice 14 k s ys)
turn_nine n l s f kind t q k size ys same does =
    framed_nine (call_turn kind t q) n l s f (turn_number n t q) (turn_number_lem n l s kind t q f) (λ (A : Type 0) (o : Ops A). turn o kind t q) k size ys false same does refl

-- no refusal of a gate or a turn has a number above 8
pub gate_small : (n : ℕ) (g : Gate) → qubit_number n (gate_qubits g) ≤ 8
gate_small n g = omega (arith, qubit_small n (gate_qubits g))

pub turn_small : (n k q : ℕ) → turn_number n k q ≤ 8
unfolding turn_number
turn_small n k q = go (turn_known k)
  where
    go : (b : Bool) → cond b (qubit_number n (q ∷ [])) 8 ≤ 8
    go true = omega (arith, qubit_small n (q ∷ []))
    go false = omega arith

pub gate_refused : (n l : ℕ) (s : List ℕ) → Framing n l s → (g : Gate) (e : Refusal) → code_of e ≡ qubit_number n (gate_qubits g) → Meets (call_gate g) s (refused (code_of e)) s
gate_refused n l s f g e is =
    framed_refused (call_gate g) n l s f (qubit_number n (gate_qubits g)) (gate_number n l s g f) (gate_small n g) (code_of e) is (code_some e)

pub turn_refused : (n l : ℕ) (s : List ℕ) → Framing n l s → (kind : Kind) (t q : ℕ) (e : Refusal) → code_of e ≡ turn_number n t q
    → Meets (call_turn kind t q) s (refused (code_of e)) s
turn_refused n l s f kind t q e is =
    framed_refused (call_turn kind t q) n l s f (turn_number n t q) (turn_number_lem n l s kind t q f) (turn_small n t q) (code_of e) is (code_some e)
