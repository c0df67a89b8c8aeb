-- The words of the theorems (proofs/Theorems.antt): what the mission's demands and 01's sentences say of a state, a look or a run. Assumes nothing.
use Rattle.std.specs.Prelude.{ℕ, zero, suc, ◌+◌, ◌*◌, ◌/◌, ◌%◌, ◌^◌, ◌≤◌, ◌<◌, ◌≡◌, ◌≢◌, ◌⊎◌, ◌↔◌, Bool, true, false, List, [], ◌∷◌, ◌++◌, map, length, ℤ, pos, negsuc, ◌*ℤ◌, eqb}
use Rattle.std.specs.Int.Bits.{bit_and}
use Rattle.model.specs.Pauli.{Pauli, count, sign, apart, anti}
use Rattle.model.specs.Frame.{Rows, Kind, Gate, h_gate, x_gate, y_gate, z_gate, s_gate, sdg_gate, sx_gate, cnot_gate, cz_gate, swap_gate, cy_gate, x_at, z_at, axis, paulis}
use Rattle.model.specs.Sketch.{Label, label_xor, no_label, labels, label_rows}
use Rattle.model.specs.Events.{Body, rotation, blocker, Event, Form, scalar, sliced, State, plane, keep, touches, event_at, live_at, is_rotation, blocker_on, dead}
use Rattle.model.specs.Search.{list_at, sign_at, Look, found, none, blocked, out}
use Rattle.model.specs.Calls.{Call, call_open, call_gate, call_turn, call_record, call_measure, call_reset, call_ccx, call_ccz, call_kill, call_read, call_clear, call_look, Lent, answer_to, rotation_of, seven, calls, Reply, refused, accepted, recorded, says, looked}

module _ {A : Type 0} where
  -- i is an element of a list
  abbrev pub Mem : A → List A → Type 0
  Mem i [] = ⊥
  Mem i (a ∷ s) = (i ≡ a) ⊎ Mem i s

-- the numbers of a list rise strictly
abbrev pub Rising : List ℕ → Type 0
Rising [] = Unit {0}
Rising (a ∷ s) = ((i : ℕ) → Mem i s → a < i) × Rising s

-- ---- demand 2: frames and signs

-- "+1 or -1"
abbrev pub IsSign : ℤ → Type 0
IsSign g = (g ≡ pos 1) ⊎ (g ≡ negsuc 0)

-- "0 gives +1, 2 gives -1, and 1 or 3 never occurs."
abbrev pub HasSign : Pauli → Type 0
HasSign p = IsSign (sign p)

-- a rotation keeps a sign
abbrev pub Signed : Body → Type 0
Signed (rotation tag sgn label) = IsSign sgn
Signed blocker = Unit {0}

-- The row of the same axis whose sign is +1: i for each qubit in both sets.
unfoldable pub positive : Pauli → Pauli
positive p = record { phase = count (bit_and p.x p.z) % 4; x = p.x; z = p.z }

-- a row over n qubits: "p is 0 to 3"
pub record Small (n : ℕ) (p : Pauli) : Type 0 where
  pub phase_small : p.phase < 4
  pub x_small : p.x < 2 ^ n
  pub z_small : p.z < 2 ^ n

-- Every row has a sign, x[q] and z[q] anticommute, and all other pairs of rows commute.
pub record Paired (n : ℕ) (r : Rows Pauli) : Type 0 where
  pub x_rows : length r.xs ≡ n
  pub z_rows : length r.zs ≡ n
  pub x_sign : (q : ℕ) → q < n → HasSign (x_at paulis r q)
  pub z_sign : (q : ℕ) → q < n → HasSign (z_at paulis r q)
  pub own : (q : ℕ) → q < n → anti (x_at paulis r q) (z_at paulis r q) ≡ 1
  pub xx : (p q : ℕ) → p < n → q < n → anti (x_at paulis r p) (x_at paulis r q) ≡ 0
  pub zz : (p q : ℕ) → p < n → q < n → anti (z_at paulis r p) (z_at paulis r q) ≡ 0
  pub xz : (p q : ℕ) → p < n → q < n → p ≢ q → anti (x_at paulis r p) (z_at paulis r q) ≡ 0

-- the qubits of a gate are there, and differ
abbrev pub Fits : ℕ → Gate → Type 0
Fits n (h_gate q) = q < n
Fits n (x_gate q) = q < n
Fits n (y_gate q) = q < n
Fits n (z_gate q) = q < n
Fits n (s_gate q) = q < n
Fits n (sdg_gate q) = q < n
Fits n (sx_gate q) = q < n
Fits n (cnot_gate c t) = (c < n) × (t < n) × (c ≢ t)
Fits n (cz_gate c t) = (c < n) × (t < n) × (c ≢ t)
Fits n (swap_gate c t) = (c < n) × (t < n) × (c ≢ t)
Fits n (cy_gate c t) = (c < n) × (t < n) × (c ≢ t)

-- ---- labels

-- the label where the digit is 1
unfoldable pub chosen : (digit : ℕ) → Label → Label
chosen zero a = no_label
chosen (suc d) a = a

-- the exclusive or of the labels of a set's qubits
unfoldable pub of_set : List Label → ℕ → Label
of_set [] x = no_label
of_set (a ∷ s) x = label_xor (chosen (x % 2) a) (of_set s (x / 2))

-- the exclusive or of the labels of a row's factors, from the labels at opening: the phase has no part in it
unfoldable pub label_of : Rows Label → Pauli → Label
label_of k p = label_xor (of_set k.xs p.x) (of_set k.zs p.z)

-- a rotation's label is that of its axis
abbrev pub Labelled : Rows Label → (x z : ℕ) → Body → Type 0
Labelled o x z (rotation tag sgn label) = label ≡ label_of o (record { phase = 0; x = x; z = z })
Labelled o x z blocker = Unit {0}

-- The sketch has the label of each row and of each axis, and each rotation that of its own.
pub record Sketched (s : State) : Type 0 where
  pub x_label : (q : ℕ) → x_at labels s.sketch q ≡ label_of (label_rows s.given.label_words) (x_at paulis s.frame q)
  pub z_label : (q : ℕ) → z_at labels s.sketch q ≡ label_of (label_rows s.given.label_words) (z_at paulis s.frame q)
  pub axis_label : (k : Kind) (q : ℕ) → axis labels k q s.sketch ≡ label_of (label_rows s.given.label_words) (axis paulis k q s.frame)
  pub event_label : (i : ℕ) → i < length s.events
      → Labelled (label_rows s.given.label_words) (event_at s.events i).x (event_at s.events i).z (event_at s.events i).body

-- ---- demand 3: the lists

-- how often i stands in a list
unfoldable pub occurs : ℕ → List ℕ → ℕ
occurs i s = length (keep (eqb i) s)

-- "dead entries fill at most a quarter of a scalar list and half of a sliced one"
abbrev pub Share : Form → (dead length : ℕ) → Type 0
Share scalar d n = 4 * d ≤ n
Share sliced d n = 2 * d ≤ n

-- "each live event stands once in every list of its support", and no event in another list
pub record Listed (s : State) : Type 0 where
  pub rising : (b : ℕ) → Rising (list_at s b)
  pub events_only : (b i : ℕ) → Mem i (list_at s b) → i < length s.events
  pub once : (b i : ℕ) → live_at s.events i ≡ true → touches (plane s) (event_at s.events i).x (event_at s.events i).z b ≡ true
      → occurs i (list_at s b) ≡ 1
  pub nowhere_else : (b i : ℕ) → touches (plane s) (event_at s.events i).x (event_at s.events i).z b ≡ false → occurs i (list_at s b) ≡ 0
  pub share : (b : ℕ) → Share s.given.form (dead s.events (list_at s b)) (length (list_at s b))

-- ---- demand 3: what a look names. No labels, no lists, no steps.

-- event id is a live rotation of the same axis, recorded since the last clear
pub record Match (s : State) (p : Pauli) (id : ℕ) : Type 0 where
  pub there : id < length s.events
  pub since : s.cleared ≤ id
  pub live : live_at s.events id ≡ true
  pub rotation : is_rotation (event_at s.events id).body ≡ true
  pub x_same : (event_at s.events id).x ≡ p.x
  pub z_same : (event_at s.events id).z ≡ p.z

-- "the newest live rotation of the same axis since the last clear"
pub record Newest (s : State) (p : Pauli) (id : ℕ) : Type 0 where
  pub match : Match s p id
  pub newest : (j : ℕ) → id < j → Match s p j → ⊥

-- event j is a "later live event" that "anticommutes with the axis"
pub record InTheWay (s : State) (p : Pauli) (id j : ℕ) : Type 0 where
  pub later : id < j
  pub there : j < length s.events
  pub live : live_at s.events j ≡ true
  pub anticommutes : apart (event_at s.events j).x (event_at s.events j).z p.x p.z ≡ 1

-- the event id is the one to name, with the relative sign g, "the product of both signs"
pub record Named (s : State) (p : Pauli) (id : ℕ) (g : ℤ) : Type 0 where
  pub newest : Newest s p id
  pub free : (j : ℕ) → InTheWay s p id j → ⊥
  pub relative : g ≡ sign_at (event_at s.events id).body *ℤ sign p

-- what each answer says; one that ran out says nothing
abbrev pub Says : State → Pauli → Look → Type 0
Says s p (found id g steps) = Named s p id g
Says s p (none steps) = (id : ℕ) → Match s p id → ⊥
Says s p (blocked steps) = (id : ℕ) × (j : ℕ) × Newest s p id × InTheWay s p id j
Says s p (out steps) = Unit {0}

-- how many events are live; "Demand 3's 12,000 still counts blockers" (02, wish 3)
unfoldable pub living : State → ℕ
living s = length (keep (λ e. e.live) s.events)

abbrev pub NotOut : Look → Type 0
NotOut (found id g steps) = Unit {0}
NotOut (none steps) = Unit {0}
NotOut (blocked steps) = Unit {0}
NotOut (out steps) = ⊥

-- "it names an event exactly when [..]", and "none" and "blocked" likewise: the answer a, with some number of steps
pub record Exactly (s : State) (p : Pauli) (a : Look) : Type 0 where
  pub names : (id : ℕ) (g : ℤ) → ((steps : ℕ) × (a ≡ found id g steps)) ↔ Named s p id g
  pub finds_none : ((steps : ℕ) × (a ≡ none steps)) ↔ ((id : ℕ) → Match s p id → ⊥)
  pub is_blocked : ((steps : ℕ) × (a ≡ blocked steps)) ↔ ((id : ℕ) × (j : ℕ) × Newest s p id × InTheWay s p id j)

-- ---- events

-- what a call records when it is accepted
unfoldable pub recorded_by : Call → State → List Event
recorded_by (call_open n E A form ws) s = []
recorded_by (call_gate g) s = []
recorded_by (call_turn kind k q) s = []
recorded_by (call_record kind q tag) s = rotation_of kind q tag s ∷ []
recorded_by (call_measure q) s = blocker_on (z_at paulis s.frame q) ∷ []
recorded_by (call_reset q) s = blocker_on (z_at paulis s.frame q) ∷ blocker_on (x_at paulis s.frame q) ∷ []
recorded_by (call_ccx a b t) s = map blocker_on (seven (z_at paulis s.frame a) (z_at paulis s.frame b) (x_at paulis s.frame t))
recorded_by (call_ccz a b t) s = map blocker_on (seven (z_at paulis s.frame a) (z_at paulis s.frame b) (z_at paulis s.frame t))
recorded_by (call_kill id) s = []
recorded_by (call_read id) s = []
recorded_by call_clear s = []
recorded_by (call_look kind q) s = []

-- event a is event b but for whether it is live, and it does not come back to life
pub record SameEvent (a b : Event) : Type 0 where
  pub body : a.body ≡ b.body
  pub x : a.x ≡ b.x
  pub z : a.z ≡ b.z
  pub dead_stays : b.live ≡ false → a.live ≡ false

-- event i of the state that the calls cs left, from s on, was recorded by the call `by`, which was accepted after the calls `before`: it is number
-- `place` of what that call recorded
pub record Recorded (cs : List Lent) (s : State) (i : ℕ) : Type 0 where
  pub before : List Lent
  pub by : Lent
  pub behind : List Lent
  pub split : cs ≡ before ++ (by ∷ behind)
  pub was_accepted : answer_to by.call by.store (calls before s) ≡ 0
  pub place : ℕ
  pub there : place < length (recorded_by by.call (calls before s))
  pub number : i ≡ length (calls before s).events + place
  pub same : SameEvent (event_at (calls cs s).events i) (event_at (recorded_by by.call (calls before s)) place)

unfoldable pub is_opening : Call → Bool
is_opening (call_open n E A form ws) = true
is_opening (call_gate g) = false
is_opening (call_turn kind k q) = false
is_opening (call_record kind q tag) = false
is_opening (call_measure q) = false
is_opening (call_reset q) = false
is_opening (call_ccx a b t) = false
is_opening (call_ccz a b t) = false
is_opening (call_kill id) = false
is_opening (call_read id) = false
is_opening call_clear = false
is_opening (call_look kind q) = false

-- ---- two runs

-- "equal looks, steps aside, unless one runs out"
abbrev pub SameLook : Look → Look → Type 0
SameLook (found i g m) (found j h n) = (i ≡ j) × (g ≡ h)
SameLook (found i g m) (none n) = ⊥
SameLook (found i g m) (blocked n) = ⊥
SameLook (found i g m) (out n) = Unit {0}
SameLook (none m) (found j h n) = ⊥
SameLook (none m) (none n) = Unit {0}
SameLook (none m) (blocked n) = ⊥
SameLook (none m) (out n) = Unit {0}
SameLook (blocked m) (found j h n) = ⊥
SameLook (blocked m) (none n) = ⊥
SameLook (blocked m) (blocked n) = Unit {0}
SameLook (blocked m) (out n) = Unit {0}
SameLook (out m) b = Unit {0}

-- the same, of whole answers: all but looks are equal
abbrev pub SameReply : Reply → Reply → Type 0
SameReply (looked a) (looked b) = SameLook a b
SameReply (looked a) (refused m) = ⊥
SameReply (looked a) accepted = ⊥
SameReply (looked a) (recorded j) = ⊥
SameReply (looked a) (says v) = ⊥
SameReply (refused k) b = refused k ≡ b
SameReply accepted b = accepted ≡ b
SameReply (recorded i) b = recorded i ≡ b
SameReply (says u) b = says u ≡ b

abbrev pub SameReplies : List Reply → List Reply → Type 0
SameReplies [] [] = Unit {0}
SameReplies [] (b ∷ t) = ⊥
SameReplies (a ∷ s) [] = ⊥
SameReplies (a ∷ s) (b ∷ t) = SameReply a b × SameReplies s t
