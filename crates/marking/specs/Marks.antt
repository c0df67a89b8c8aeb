-- What is recorded, as `model` has it. Assumes nothing.
use Rattle.std.specs.Prelude.{◌≡◌, Bool, true, List, [], ◌∷◌, map, ℕ, ◌+◌, ◌-◌, ◌≤◌, ◌<◌, length, get_or, take, drop}
use Rattle.model.specs.Frame.{x_at, z_at, paulis}
use Rattle.model.specs.Events.{Event, State, record1, record_all, blocker_on}
use Rattle.model.specs.Calls.{Call, call_record, call_measure, call_reset, call_ccx, call_ccz, rotation_of, seven}
use Rattle.model.proofs.Good.{Good}
use Rattle.frame.specs.Axes.{axis_of, kind_of}
use Rattle.frame.specs.declared.axes.Basis.{Basis}
use Rattle.frame.specs.declared.axes.Kind.{Kind}
use Rattle.history.specs.Recordings.{Recorded}
use Rattle.history.specs.declared.events.Body.{Body}
use Rattle.store.specs.Stores.{Stored, StoredTo}
use Rattle.marking.specs.declared.events.Mark.{Mark}
use Rattle.marking.specs.declared.events.Mark.TheVariants.{Rotation, Measure, Reset, Ccx, Ccz}

-- the call of a mark
unfoldable pub call_of : Mark → Call
call_of (Rotation kind q tag) = call_record (kind_of kind) q tag
call_of (Measure q) = call_measure q
call_of (Reset q) = call_reset q
call_of (Ccx a b t) = call_ccx a b t
call_of (Ccz a b t) = call_ccz a b t

-- the qubits that it names
unfoldable pub qubits_of : Mark → List ℕ
qubits_of (Rotation kind q tag) = q ∷ []
qubits_of (Measure q) = q ∷ []
qubits_of (Reset q) = q ∷ []
qubits_of (Ccx a b t) = a ∷ b ∷ t ∷ []
qubits_of (Ccz a b t) = a ∷ b ∷ t ∷ []

-- how many events it records
unfoldable pub records_of : Mark → ℕ
records_of (Rotation kind q tag) = 1
records_of (Measure q) = 1
records_of (Reset q) = 2
records_of (Ccx a b t) = 7
records_of (Ccz a b t) = 7

-- ---- the events that are recorded, by the state

-- a rotation
unfoldable pub rotation_about : Kind → (q tag : ℕ) → State → List Event
rotation_about kind q tag m = rotation_of (kind_of kind) q tag m ∷ []

-- a blocker on the row x[q] or z[q]
unfoldable pub blocker_at : Basis → (q : ℕ) → State → List Event
blocker_at basis q m = blocker_on (axis_of basis m.frame q) ∷ []

-- "the seven products of z[a], z[b] and the target row": one of them, and all
unfoldable pub product_at : Basis → (a b t i : ℕ) → State → List Event
product_at basis a b t i m = blocker_on (get_or (seven (z_at paulis m.frame a) (z_at paulis m.frame b) (axis_of basis m.frame t)) i paulis.unit) ∷ []

unfoldable pub products : Basis → (a b t : ℕ) → State → List Event
products basis a b t m = map blocker_on (seven (z_at paulis m.frame a) (z_at paulis m.frame b) (axis_of basis m.frame t))

-- a mark: "measure records z[q]; reset z[q], then x[q]; ccx and ccz record the seven products [..] (x for ccx, z for ccz)"
unfoldable pub events_of : Mark → State → List Event
events_of (Rotation kind q tag) m = rotation_of (kind_of kind) q tag m ∷ []
events_of (Measure q) m = blocker_on (z_at paulis m.frame q) ∷ []
events_of (Reset q) m = blocker_on (z_at paulis m.frame q) ∷ blocker_on (x_at paulis m.frame q) ∷ []
events_of (Ccx a b t) m = map blocker_on (seven (z_at paulis m.frame a) (z_at paulis m.frame b) (x_at paulis m.frame t))
events_of (Ccz a b t) m = map blocker_on (seven (z_at paulis m.frame a) (z_at paulis m.frame b) (z_at paulis m.frame t))

-- ---- records on a store

-- the axis of a row: the words behind its phase
abbrev pub axis_words : List ℕ → List ℕ
axis_words row = take (length row - 1) (drop 1 row)

-- From s to t, with the answer r, an event of this body, with the axis behind the phase of `row`, is recorded: for every good state that s holds
-- and that has room for it. Between two records of one call a state is none that calls leave, so what is asked of it is `Good`.
abbrev pub Puts : (row : List ℕ) → Body → List ℕ → Bool → List ℕ → Type 0
Puts row body s r t =
    (m : State) (e : Event) → Stored m s → Good m → length m.events < m.given.capacity → Recorded m.given.n (axis_words row) body e
    → (r ≡ true) × StoredTo (record1 e m) s t

-- the same of several events, by the state
abbrev pub Records : (State → List Event) → List ℕ → Bool → List ℕ → Type 0
Records es s r t =
    (m : State) → Stored m s → Good m → length m.events + length (es m) ≤ m.given.capacity → (r ≡ true) × StoredTo (record_all (es m) m) s t
