-- The calls, their numbered answers and what an accepted one does, after 01, "Answer numbers" and the texts of the calls. Assumes nothing.
use Rattle.std.specs.Prelude.{ℕ, ◌+◌, ◌-◌, ◌*◌, ◌^◌, Bool, true, false, cond, not, ◌||◌, List, [], ◌∷◌, map, length, replicate, ℤ, eqb, ltb, leb}
use Rattle.model.specs.Pauli.{Pauli, times, sign}
use Rattle.model.specs.Frame.{Rows, Kind, Gate, h_gate, x_gate, y_gate, z_gate, s_gate, sdg_gate, sx_gate, cnot_gate, cz_gate, swap_gate, cy_gate, x_at, z_at, gate, turn, axis, paulis, fresh}
use Rattle.model.specs.Sketch.{Label, labels, label_rows}
use Rattle.model.specs.Events.{Body, rotation, blocker, Event, Form, scalar, sliced, Opening, State, keep, some, words, event_at, live_at, is_rotation, record1, record_all, blocker_on, kill, clear}
use Rattle.model.specs.Search.{sign_at, Look, look}
use Rattle.model.specs.Store.{need, list_count}

-- ---- opening

-- "The sliced form takes n up to 32."
unfoldable pub is_too_wide : Form → (n : ℕ) → Bool
is_too_wide scalar n = false
is_too_wide sliced n = ltb 32 n

-- "n is 1 to 23,168 (4nl must not pass 2^25)" (`qubit_limit`); "A is 0 to 1,048,576. E is at least 1 and 2lE at most 2^25." "At opening 1, 2, 3."
unfoldable pub open_number : (n E A : ℕ) → Form → (label_words store_words : ℕ) → ℕ
open_number n E A form label_words store_words =
    cond (eqb n 0 || ltb (2 ^ 25) (4 * n * words n) || ltb (2 ^ 20) A || is_too_wide form n) 1
    (cond (eqb E 0 || ltb (2 ^ 25) (2 * words n * E)) 2
    (cond (not (eqb label_words (4 * n)) || ltb store_words (need n E form)) 3 0))

unfoldable pub open_answer : Opening → ℕ
open_answer o = open_number o.n o.capacity o.allowance o.form (length o.label_words) o.size

unfoldable pub opened : Opening → State
opened o = record {
  given = o;
  frame = fresh o.n;
  sketch = label_rows o.label_words;
  events = [];
  lists = replicate (list_count o.form o.n) [];
  cleared = 0;
}

-- ---- the calls

pub data Call : Type 0 where
  call_open : (n E A : ℕ) → Form → (label_words : List ℕ) → Call
  call_gate : Gate → Call
  call_turn : Kind → (k q : ℕ) → Call
  call_record : Kind → (q tag : ℕ) → Call
  call_measure call_reset : (q : ℕ) → Call
  call_ccx call_ccz : (a b t : ℕ) → Call
  call_kill call_read : (id : ℕ) → Call
  call_clear : Call
  call_look : Kind → (q : ℕ) → Call

-- a call and how many words of store are lent to it
pub record Lent : Type 0 where
  pub call : Call
  pub store : ℕ

-- what an opening call gives, on a store of so many words
unfoldable pub opening : (n E A : ℕ) → Form → List ℕ → (store_words : ℕ) → Opening
opening n E A form ws store_words = record { n = n; capacity = E; allowance = A; form = form; label_words = ws; size = store_words }

-- ---- the answer numbers

-- some element of the list stands there twice
unfoldable pub twice : List ℕ → Bool
twice [] = false
twice (a ∷ s) = some (eqb a) s || twice s

-- "Order: 3; 8; 4; 5; 6 or 7." The call has this turn (0 if it has none), names these qubits, records so many events, and `bad` says that the
-- event which it names is none that it can name.
unfoldable pub answer : State → (store_words turn_by : ℕ) → (qubits : List ℕ) → (records : ℕ) → (bad : Bool) → ℕ
answer s store_words turn_by qubits records bad =
    cond (ltb store_words s.given.size) 3
    (cond (not (eqb turn_by 0 || eqb turn_by 2 || eqb turn_by 4 || eqb turn_by 6)) 8
    (cond (some (leb s.given.n) qubits) 4
    (cond (twice qubits) 5
    (cond (ltb s.given.capacity (length s.events + records)) 6
    (cond bad 7 0)))))

unfoldable pub gate_qubits : Gate → List ℕ
gate_qubits (h_gate q) = q ∷ []
gate_qubits (x_gate q) = q ∷ []
gate_qubits (y_gate q) = q ∷ []
gate_qubits (z_gate q) = q ∷ []
gate_qubits (s_gate q) = q ∷ []
gate_qubits (sdg_gate q) = q ∷ []
gate_qubits (sx_gate q) = q ∷ []
gate_qubits (cnot_gate c t) = c ∷ t ∷ []
gate_qubits (cz_gate c t) = c ∷ t ∷ []
gate_qubits (swap_gate a b) = a ∷ b ∷ []
gate_qubits (cy_gate c t) = c ∷ t ∷ []

-- "read: no such event or a blocker"
unfoldable pub not_readable : List Event → ℕ → Bool
not_readable es id = leb (length es) id || not (is_rotation (event_at es id).body)

-- "kill: no such event, a blocker, or dead"
unfoldable pub not_killable : List Event → ℕ → Bool
not_killable es id = not_readable es id || not (live_at es id)

unfoldable pub answer_to : Call → (store_words : ℕ) → State → ℕ
answer_to (call_open n E A form ws) w s = open_answer (opening n E A form ws w)
answer_to (call_gate g) w s = answer s w 0 (gate_qubits g) 0 false
answer_to (call_turn kind k q) w s = answer s w k (q ∷ []) 0 false
answer_to (call_record kind q tag) w s = answer s w 0 (q ∷ []) 1 false
answer_to (call_measure q) w s = answer s w 0 (q ∷ []) 1 false
answer_to (call_reset q) w s = answer s w 0 (q ∷ []) 2 false
answer_to (call_ccx a b t) w s = answer s w 0 (a ∷ b ∷ t ∷ []) 7 false
answer_to (call_ccz a b t) w s = answer s w 0 (a ∷ b ∷ t ∷ []) 7 false
answer_to (call_kill id) w s = answer s w 0 [] 0 (not_killable s.events id)
answer_to (call_read id) w s = answer s w 0 [] 0 (not_readable s.events id)
answer_to call_clear w s = answer s w 0 [] 0 false
answer_to (call_look kind q) w s = answer s w 0 (q ∷ []) 0 false

-- ---- the whole answers

-- "A read gives tag, sign and whether it is live, dead ones too."
pub record Reading : Type 0 where
  pub tag : ℕ
  pub sgn : ℤ
  pub live : Bool

unfoldable pub tag_at : Body → ℕ
tag_at (rotation tag sgn label) = tag
tag_at blocker = 0

unfoldable pub reading : List Event → ℕ → Reading
reading es id = record { tag = tag_at (event_at es id).body; sgn = sign_at (event_at es id).body; live = live_at es id }

-- What a call gives back: the number of a refusal alone; or 0 and nothing else, 0 and "the event recorded (the first of several)", what a read
-- or what a look says.
pub data Reply : Type 0 where
  refused : (number : ℕ) → Reply
  accepted : Reply
  recorded : (first : ℕ) → Reply
  says : Reading → Reply
  looked : Look → Reply

unfoldable pub reply_of : Call → State → Reply
reply_of (call_open n E A form ws) s = accepted
reply_of (call_gate g) s = accepted
reply_of (call_turn kind k q) s = accepted
reply_of (call_record kind q tag) s = recorded (length s.events)
reply_of (call_measure q) s = recorded (length s.events)
reply_of (call_reset q) s = recorded (length s.events)
reply_of (call_ccx a b t) s = recorded (length s.events)
reply_of (call_ccz a b t) s = recorded (length s.events)
reply_of (call_kill id) s = accepted
reply_of (call_read id) s = says (reading s.events id)
reply_of call_clear s = accepted
reply_of (call_look kind q) s = looked (look kind q s)

unfoldable pub reply : Call → (store_words : ℕ) → State → Reply
reply c w s = let r : Reply = reply_of c s in cond (eqb (answer_to c w s) 0) r (refused (answer_to c w s))

-- ---- what an accepted call does

unfoldable pub reframed : Rows Pauli → Rows Label → State → State
reframed f k s = record {
  given = s.given;
  frame = f;
  sketch = k;
  events = s.events;
  lists = s.lists;
  cleared = s.cleared;
}

-- the rotation that a record makes
unfoldable pub rotation_of : Kind → (q tag : ℕ) → State → Event
rotation_of kind q tag s =
    let p : Pauli = axis paulis kind q s.frame in
    record { body = rotation tag (sign p) (axis labels kind q s.sketch); x = p.x; z = p.z; live = true }

-- "the seven products of z[a], z[b] and the target row [..], subsets 1 to 7 with bit 0 = a, 1 = b, 2 = target"
unfoldable pub seven : (a b t : Pauli) → List Pauli
seven a b t = a ∷ b ∷ times a b ∷ t ∷ times a t ∷ times b t ∷ times (times a b) t ∷ []

-- "measure records z[q]; reset z[q], then x[q]; ccx and ccz record the seven products [..] (x for ccx, z for ccz)"
unfoldable pub effect : Call → (store_words : ℕ) → State → State
effect (call_open n E A form ws) w s = opened (opening n E A form ws w)
effect (call_gate g) w s = reframed (gate paulis g s.frame) (gate labels g s.sketch) s
effect (call_turn kind k q) w s = reframed (turn paulis kind k q s.frame) (turn labels kind k q s.sketch) s
effect (call_record kind q tag) w s = record1 (rotation_of kind q tag s) s
effect (call_measure q) w s = record1 (blocker_on (z_at paulis s.frame q)) s
effect (call_reset q) w s = record_all (blocker_on (z_at paulis s.frame q) ∷ blocker_on (x_at paulis s.frame q) ∷ []) s
effect (call_ccx a b t) w s = record_all (map blocker_on (seven (z_at paulis s.frame a) (z_at paulis s.frame b) (x_at paulis s.frame t))) s
effect (call_ccz a b t) w s = record_all (map blocker_on (seven (z_at paulis s.frame a) (z_at paulis s.frame b) (z_at paulis s.frame t))) s
effect (call_kill id) w s = kill id s
effect (call_read id) w s = s
effect call_clear w s = clear s
effect (call_look kind q) w s = s

-- "Nothing is written on 1 to 8."
unfoldable pub call : Call → (store_words : ℕ) → State → State
call c w s = let s' : State = effect c w s in cond (eqb (answer_to c w s) 0) s' s

-- calls in a row, accepted or refused: the state that they leave, and what each of them gives back
unfoldable pub calls : List Lent → State → State
calls [] s = s
calls (c ∷ cs) s = calls cs (call c.call c.store s)

unfoldable pub replies : List Lent → State → List Reply
replies [] s = []
replies (c ∷ cs) s = reply c.call c.store s ∷ replies cs (call c.call c.store s)

-- ---- the end line

-- "live is the rotations left to run, worked out as events recorded less events killed": only a kill makes an event dead, so blockers count.
pub record Tally : Type 0 where
  pub events : ℕ
  pub live : ℕ

unfoldable pub tally : State → Tally
tally s = record { events = length s.events; live = length s.events - length (keep (λ e. not e.live) s.events) }
