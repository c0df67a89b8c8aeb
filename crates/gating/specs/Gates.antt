-- The code's gates are `model`'s, and which turns are known. Assumes nothing.
use Rattle.std.specs.Prelude.{cond, [], ◌∷◌, ℕ}
use Rattle.model.specs.Frame as model
use Rattle.store.specs.Promises.{turn_known, qubit_number}
use Rattle.gating.specs.declared.gates.Gate.{Gate}
use Rattle.gating.specs.declared.gates.Gate.TheVariants.{H, X, Y, Z, S, Sdg, Sx, Cnot, Cz, Swap, Cy}

unfoldable pub gate_of : Gate → model.Gate
gate_of (H q) = model.h_gate q
gate_of (X q) = model.x_gate q
gate_of (Y q) = model.y_gate q
gate_of (Z q) = model.z_gate q
gate_of (S q) = model.s_gate q
gate_of (Sdg q) = model.sdg_gate q
gate_of (Sx q) = model.sx_gate q
gate_of (Cnot c t) = model.cnot_gate c t
gate_of (Cz c t) = model.cz_gate c t
gate_of (Swap a b) = model.swap_gate a b
gate_of (Cy c t) = model.cy_gate c t

-- 8 or the qubit's number, or 0: "Order: 3; 8; 4; 5; 6 or 7." (01)
unfoldable pub turn_number : (n k q : ℕ) → ℕ
turn_number n k q = cond (turn_known k) (qubit_number n (q ∷ [])) 8
