-- The rows x[q] and z[q] of a frame and the gates, after 01, "Frames". The gates are written once, over rows of anything that can be multiplied
-- and shifted by a power of i: Pauli products here, labels in `Sketch`. Assumes nothing.
use Rattle.std.specs.Prelude.{ℕ, zero, suc, ◌^◌, cond, List, [], ◌∷◌, map, get_or, set, eqb}
use Rattle.model.specs.Pauli.{Pauli, times, shift, plain}

-- what a gate asks of the rows: their product, phase + k, and the row of a qubit that is not there
pub record Ops (A : Type 0) : Type 0 where
  pub mul : A → A → A
  pub turned : ℕ → A → A
  pub unit : A

pub record Rows (A : Type 0) : Type 0 where
  pub xs : List A
  pub zs : List A

pub data Kind : Type 0 where
  kind_x kind_y kind_z kind_p : Kind

pub data Gate : Type 0 where
  h_gate x_gate y_gate z_gate s_gate sdg_gate sx_gate : ℕ → Gate
  cnot_gate cz_gate swap_gate cy_gate : ℕ → ℕ → Gate

module _ {A : Type 0} (o : Ops A) where
  unfoldable pub x_at : Rows A → ℕ → A
  x_at r q = get_or r.xs q o.unit

  unfoldable pub z_at : Rows A → ℕ → A
  z_at r q = get_or r.zs q o.unit

module _ {A : Type 0} where
  unfoldable pub set_x : Rows A → ℕ → A → Rows A
  set_x r q a = record { xs = set r.xs q a; zs = r.zs }

  unfoldable pub set_z : Rows A → ℕ → A → Rows A
  set_z r q a = record { xs = r.xs; zs = set r.zs q a }

module _ {A : Type 0} (o : Ops A) where
  -- "h: exchange x, z."
  unfoldable pub gate_h : ℕ → Rows A → Rows A
  gate_h q r = set_z (set_x r q (z_at o r q)) q (x_at o r q)

  -- "s: x = x·z, phase +3. sdg: x = x·z, phase +1."
  unfoldable pub gate_s : ℕ → ℕ → Rows A → Rows A
  gate_s k q r = set_x r q (o.turned k (o.mul (x_at o r q) (z_at o r q)))

  -- "z: x phase +2."
  unfoldable pub gate_z : ℕ → Rows A → Rows A
  gate_z q r = set_x r q (o.turned 2 (x_at o r q))

  -- "x: z phase +2."
  unfoldable pub gate_x : ℕ → Rows A → Rows A
  gate_x q r = set_z r q (o.turned 2 (z_at o r q))

  -- "cnot c,t: x[c] = x[c]·x[t]; z[t] = z[t]·z[c]."
  unfoldable pub gate_cnot : ℕ → ℕ → Rows A → Rows A
  gate_cnot c t r = set_z (set_x r c (o.mul (x_at o r c) (x_at o r t))) t (o.mul (z_at o r t) (z_at o r c))

  -- "cz: x[c] = x[c]·z[t]; x[t] = x[t]·z[c]."
  unfoldable pub gate_cz : ℕ → ℕ → Rows A → Rows A
  gate_cz c t r = set_x (set_x r c (o.mul (x_at o r c) (z_at o r t))) t (o.mul (x_at o r t) (z_at o r c))

  -- "swap: both rows."
  unfoldable pub gate_swap : ℕ → ℕ → Rows A → Rows A
  gate_swap a b r = set_z (set_z (set_x (set_x r a (x_at o r b)) b (x_at o r a)) a (z_at o r b)) b (z_at o r a)

  -- the rest from these: "y: both"; "sx: h, s, h. cy: sdg t, cnot, s t."
  unfoldable pub gate : Gate → Rows A → Rows A
  unfolding gate_h gate_s gate_z gate_x gate_cnot gate_cz gate_swap
  gate (h_gate q) r = gate_h q r
  gate (x_gate q) r = gate_x q r
  gate (y_gate q) r = gate_z q (gate_x q r)
  gate (z_gate q) r = gate_z q r
  gate (s_gate q) r = gate_s 3 q r
  gate (sdg_gate q) r = gate_s 1 q r
  gate (sx_gate q) r = gate_h q (gate_s 3 q (gate_h q r))
  gate (cnot_gate c t) r = gate_cnot c t r
  gate (cz_gate c t) r = gate_cz c t r
  gate (swap_gate a b) r = gate_swap a b r
  gate (cy_gate c t) r = gate_s 3 t (gate_cnot c t (gate_s 1 t r))

  -- "s, z or sdg for 2, 4, 6 and nothing for 0"
  unfoldable pub turn_z : ℕ → ℕ → Rows A → Rows A
  turn_z k q r = cond (eqb k 2) (gate_s 3 q r) (cond (eqb k 4) (gate_z q r) (cond (eqb k 6) (gate_s 1 q r) r))

  -- "A turn K of a kind: for y first sdg; for x, y then h; then [that]; then h again for x, y and last s for y."
  unfoldable pub turn : Kind → ℕ → ℕ → Rows A → Rows A
  turn kind_x k q r = gate_h q (turn_z k q (gate_h q r))
  turn kind_y k q r = gate_s 3 q (gate_h q (turn_z k q (gate_h q (gate_s 1 q r))))
  turn kind_z k q r = turn_z k q r
  turn kind_p k q r = turn_z k q r

  -- "Axis of kind x is x[q]; z and p are z[q]; y is x[q]·z[q] with phase +1."
  unfoldable pub axis : Kind → ℕ → Rows A → A
  axis kind_x q r = x_at o r q
  axis kind_y q r = o.turned 1 (o.mul (x_at o r q) (z_at o r q))
  axis kind_z q r = z_at o r q
  axis kind_p q r = z_at o r q

-- ---- the exact frame

unfoldable pub paulis : Ops Pauli
paulis = record { mul = times; turned = shift; unit = plain }

-- k, k + 1, .., n numbers in all
unfoldable pub from : ℕ → ℕ → List ℕ
from k zero = []
from k (suc n) = k ∷ from (suc k) n

unfoldable pub pauli_x : ℕ → Pauli
pauli_x q = record { phase = 0; x = 2 ^ q; z = 0 }

unfoldable pub pauli_z : ℕ → Pauli
pauli_z q = record { phase = 0; x = 0; z = 2 ^ q }

-- "At opening row x[q] is X on q, z[q] is Z on q, phases 0."
unfoldable pub fresh : ℕ → Rows Pauli
fresh n = record { xs = map pauli_x (from 0 n); zs = map pauli_z (from 0 n) }
