-- A row of ours as one of the paper's and back, a gate of 01 as a circuit of the paper's gates, and the gates that calls have applied. Assumes nothing.
use Rattle.std.specs.Prelude.{ℕ, zero, suc, ◌+◌, ◌*◌, ◌/◌, ◌%◌, ◌^◌, cond, List, [], ◌∷◌, ◌++◌, ◌≡◌, ℤ, pos, negsuc, get_or, eqb}
use Rattle.std.specs.Int.Bits.{bit_and, bit_xor}
use Rattle.model.specs.Pauli.{Pauli, count, quarter}
use Rattle.model.specs.Frame.{Rows, Kind, kind_x, kind_y, kind_z, kind_p, Gate, h_gate, x_gate, y_gate, z_gate, s_gate, sdg_gate, sx_gate, cnot_gate, cz_gate, swap_gate, cy_gate, gate, paulis}
use Rattle.model.specs.Events.{Body, rotation, blocker, Event, Opening, State}
use Rattle.model.specs.Calls.{opened, Call, call_open, call_gate, call_turn, call_record, call_measure, call_reset, call_ccx, call_ccz, call_kill, call_read, call_clear, call_look, Lent, answer_to, call}
use Rattle.model.specs.Demands.{Fits}
use Rattle.paper.specs.Tableau.{Row, Step, cnot, hadamard, phase, run, inverse}

-- ---- rows

-- i^p X Z as letters with a sign: each qubit in both sets is a Y = iXZ, and what is left of the phase is the sign
unfoldable pub to_row : Pauli → Row
to_row p = record { r = quarter p / 2; x = p.x; z = p.z }

-- (-1)^r times letters as i^p X Z
unfoldable pub of_row : Row → Pauli
of_row w = record { phase = (2 * w.r + count (bit_and w.x w.z)) % 4; x = w.x; z = w.z }

-- (-1)^r
unfoldable pub row_sign : (r : ℕ) → ℤ
row_sign zero = pos 1
row_sign (suc r) = negsuc 0

-- the letters X, Y and Z on qubit q alone, by kind
unfoldable pub single : Kind → (q : ℕ) → Row
single kind_x q = record { r = 0; x = 2 ^ q; z = 0 }
single kind_y q = record { r = 0; x = 2 ^ q; z = 2 ^ q }
single kind_z q = record { r = 0; x = 0; z = 2 ^ q }
single kind_p q = record { r = 0; x = 0; z = 2 ^ q }

-- ---- gates

-- Each gate from the paper's three: sdg is S three times, z is S twice, x is z between Hadamards, y is x and z up to a phase of the whole, sx and cy as
-- 01 has them, cz is CNOT between Hadamards on the target, swap is three CNOTs.
unfoldable pub circuit : Gate → List Step
circuit (h_gate q) = hadamard q ∷ []
circuit (s_gate q) = phase q ∷ []
circuit (sdg_gate q) = phase q ∷ phase q ∷ phase q ∷ []
circuit (z_gate q) = phase q ∷ phase q ∷ []
circuit (x_gate q) = hadamard q ∷ phase q ∷ phase q ∷ hadamard q ∷ []
circuit (y_gate q) = hadamard q ∷ phase q ∷ phase q ∷ hadamard q ∷ phase q ∷ phase q ∷ []
circuit (sx_gate q) = hadamard q ∷ phase q ∷ hadamard q ∷ []
circuit (cnot_gate c t) = cnot c t ∷ []
circuit (cz_gate c t) = hadamard t ∷ cnot c t ∷ hadamard t ∷ []
circuit (swap_gate a b) = cnot a b ∷ cnot b a ∷ cnot a b ∷ []
circuit (cy_gate c t) = phase t ∷ phase t ∷ phase t ∷ cnot c t ∷ phase t ∷ []

-- gates one after the other
unfoldable pub circuits : List Gate → List Step
circuits [] = []
circuits (f ∷ fs) = circuit f ++ circuits fs

-- and our frame through them
unfoldable pub gates : List Gate → Rows Pauli → Rows Pauli
gates [] r = r
gates (f ∷ fs) r = gates fs (gate paulis f r)

-- their qubits are there, and differ
abbrev pub AllFit : ℕ → List Gate → Type 0
AllFit n [] = Unit {0}
AllFit n (f ∷ fs) = Fits n f × AllFit n fs

-- a turn as 01 has it: "for y first sdg; for x, y then h; then s, z or sdg for 2, 4, 6 and nothing for 0; then h again for x, y and last s for y"
unfoldable pub about_z : (k q : ℕ) → List Gate
about_z k q = cond (eqb k 2) (s_gate q ∷ []) (cond (eqb k 4) (z_gate q ∷ []) (cond (eqb k 6) (sdg_gate q ∷ []) []))

unfoldable pub turn_gates : Kind → (k q : ℕ) → List Gate
turn_gates kind_x k q = h_gate q ∷ (about_z k q ++ (h_gate q ∷ []))
turn_gates kind_y k q = sdg_gate q ∷ h_gate q ∷ (about_z k q ++ (h_gate q ∷ s_gate q ∷ []))
turn_gates kind_z k q = about_z k q
turn_gates kind_p k q = about_z k q

-- ---- calls

-- the gates of an accepted call, behind those before it; an opening starts afresh
unfoldable pub heard : Call → List Gate → List Gate
heard (call_open n E A form ws) fs = []
heard (call_gate f) fs = fs ++ (f ∷ [])
heard (call_turn kind k q) fs = fs ++ turn_gates kind k q
heard (call_record kind q tag) fs = fs
heard (call_measure q) fs = fs
heard (call_reset q) fs = fs
heard (call_ccx a b t) fs = fs
heard (call_ccz a b t) fs = fs
heard (call_kill id) fs = fs
heard (call_read id) fs = fs
heard call_clear fs = fs
heard (call_look kind q) fs = fs

-- the gates that calls have applied since the last accepted opening, in order
unfoldable pub applied : List Lent → State → List Gate → List Gate
applied [] s fs = fs
applied (c ∷ cs) s fs =
    let more : List Gate = heard c.call fs in
    applied cs (call c.call c.store s) (cond (eqb (answer_to c.call c.store s) 0) more fs)

-- ---- events

-- two rows as one, signs ignored
unfoldable pub together : Row → Row → Row
together a b = record { r = 0; x = bit_xor a.x b.x; z = bit_xor a.z b.z }

unfoldable pub seven_rows : (a b t : Row) → List Row
seven_rows a b t = a ∷ b ∷ together a b ∷ t ∷ together a t ∷ together b t ∷ together (together a b) t ∷ []

-- the rows that an accepted call records, if w gives the row of each kind and qubit
unfoldable pub theirs : Call → (Kind → ℕ → Row) → List Row
theirs (call_open n E A form ws) w = []
theirs (call_gate f) w = []
theirs (call_turn kind k q) w = []
theirs (call_record kind q tag) w = w kind q ∷ []
theirs (call_measure q) w = w kind_z q ∷ []
theirs (call_reset q) w = w kind_z q ∷ w kind_x q ∷ []
theirs (call_ccx a b t) w = seven_rows (w kind_z a) (w kind_z b) (w kind_x t)
theirs (call_ccz a b t) w = seven_rows (w kind_z a) (w kind_z b) (w kind_z t)
theirs (call_kill id) w = []
theirs (call_read id) w = []
theirs call_clear w = []
theirs (call_look kind q) w = []

-- an event has the sets of a row and, if it is a rotation, its sign
abbrev pub SignOf : Body → ℤ → Type 0
SignOf (rotation tag sgn label) g = sgn ≡ g
SignOf blocker g = Unit {0}

pub record Is (e : Event) (w : Row) : Type 0 where
  pub x : e.x ≡ w.x
  pub z : e.z ≡ w.z
  pub signed : SignOf e.body (row_sign w.r)

-- row k of some rows
unfoldable pub row_at : List Row → ℕ → Row
row_at ws k = get_or ws k (record { r = 0; x = 0; z = 0 })

-- U†PU for P the letter of a kind on qubit q and U the gates that calls have applied since the opening o
unfoldable pub carried : Opening → List Lent → Kind → (q : ℕ) → Row
carried o cs kind q = run (inverse (circuits (applied cs (opened o) []))) (single kind q)
