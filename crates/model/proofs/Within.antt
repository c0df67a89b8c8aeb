-- What is closed under products and turns holds of every row of a frame, after any gates: every row's sets are of the n qubits. Assumes nothing.
use Prim.Native.Nat.{ℕ, zero, suc, ◌+◌, ◌<◌}
use mathlib.Core.Bool.{Bool, true, false, cond}
use mathlib.Core.List.{List, [], ◌∷◌, map}
use native.Mathlib.Omega.{arith}
use lib.ListN.{get_or, set}
use lib.Pow.{pow_pos, pow-lt}
use lib.Bits.{xor_lt}
use native.Mathlib.Nat.{mod-lt}
use lib.Dec.{eqb, lit<}
use Rattle.model.specs.Pauli.{Pauli, times, shift, plain}
use Rattle.model.specs.Demands.{Small}
use Rattle.model.specs.Frame.{Ops, Rows, Kind, kind_x, kind_y, kind_z, kind_p, Gate, h_gate, x_gate, y_gate, z_gate, s_gate, sdg_gate, sx_gate, cnot_gate, cz_gate, swap_gate, cy_gate, x_at, z_at, set_x, set_z, gate_h, gate_s, gate_z, gate_x, gate_cnot, gate_cz, gate_swap, gate, turn_z, turn, axis, paulis, from, pauli_x, pauli_z, fresh}

-- ---- what is closed under products and turns holds of every row

pub record All {A : Type 0} (o : Ops A) (P : A → Type 0) (r : Rows A) : Type 0 where
  pub all_x : (q : ℕ) → P (x_at o r q)
  pub all_z : (q : ℕ) → P (z_at o r q)

module _ {A : Type 0} (o : Ops A) (P : A → Type 0) (pm : (a b : A) → P a → P b → P (o.mul a b)) (pt : (k : ℕ) (a : A) → P a → P (o.turned k a)) where
  set_all : (l : List A) (i : ℕ) (a : A) → P a → ((j : ℕ) → P (get_or l j o.unit)) → (j : ℕ) → P (get_or (set l i a) j o.unit)
  set_all [] i a p h j = h j
  set_all (b ∷ l) zero a p h zero = p
  set_all (b ∷ l) zero a p h (suc j) = h (suc j)
  set_all (b ∷ l) (suc i) a p h zero = h 0
  set_all (b ∷ l) (suc i) a p h (suc j) = set_all l i a p (λ m. h (suc m)) j

  All-set_x : (r : Rows A) (q : ℕ) (a : A) → All o P r → P a → All o P (set_x r q a)
  unfolding set_x x_at z_at
  All-set_x r q a h p = record { all_x = set_all r.xs q a p h.all_x; all_z = h.all_z }

  All-set_z : (r : Rows A) (q : ℕ) (a : A) → All o P r → P a → All o P (set_z r q a)
  unfolding set_z x_at z_at
  All-set_z r q a h p = record { all_x = h.all_x; all_z = set_all r.zs q a p h.all_z }

  All-h_gate : (q : ℕ) (r : Rows A) → All o P r → All o P (gate_h o q r)
  unfolding gate_h
  All-h_gate q r h = All-set_z _ q _ (All-set_x r q _ h (h.all_z q)) (h.all_x q)

  All-s_gate : (k q : ℕ) (r : Rows A) → All o P r → All o P (gate_s o k q r)
  unfolding gate_s
  All-s_gate k q r h = All-set_x r q _ h (pt k _ (pm _ _ (h.all_x q) (h.all_z q)))

  All-z_gate : (q : ℕ) (r : Rows A) → All o P r → All o P (gate_z o q r)
  unfolding gate_z
  All-z_gate q r h = All-set_x r q _ h (pt 2 _ (h.all_x q))

  All-x_gate : (q : ℕ) (r : Rows A) → All o P r → All o P (gate_x o q r)
  unfolding gate_x
  All-x_gate q r h = All-set_z r q _ h (pt 2 _ (h.all_z q))

  All-cnot_gate : (c t : ℕ) (r : Rows A) → All o P r → All o P (gate_cnot o c t r)
  unfolding gate_cnot
  All-cnot_gate c t r h = All-set_z _ t _ (All-set_x r c _ h (pm _ _ (h.all_x c) (h.all_x t))) (pm _ _ (h.all_z t) (h.all_z c))

  All-cz_gate : (c t : ℕ) (r : Rows A) → All o P r → All o P (gate_cz o c t r)
  unfolding gate_cz
  All-cz_gate c t r h = All-set_x _ t _ (All-set_x r c _ h (pm _ _ (h.all_x c) (h.all_z t))) (pm _ _ (h.all_x t) (h.all_z c))

  All-swap_gate : (a b : ℕ) (r : Rows A) → All o P r → All o P (gate_swap o a b r)
  unfolding gate_swap
  All-swap_gate a b r h = All-set_z _ b _ (All-set_z _ a _ (All-set_x _ b _ (All-set_x r a _ h (h.all_x b)) (h.all_x a)) (h.all_z b)) (h.all_z a)

  All-gate : (g : Gate) (r : Rows A) → All o P r → All o P (gate o g r)
  unfolding gate
  All-gate (h_gate q) r h = All-h_gate q r h
  All-gate (x_gate q) r h = All-x_gate q r h
  All-gate (y_gate q) r h = All-z_gate q _ (All-x_gate q r h)
  All-gate (z_gate q) r h = All-z_gate q r h
  All-gate (s_gate q) r h = All-s_gate 3 q r h
  All-gate (sdg_gate q) r h = All-s_gate 1 q r h
  All-gate (sx_gate q) r h = All-h_gate q _ (All-s_gate 3 q _ (All-h_gate q r h))
  All-gate (cnot_gate c t) r h = All-cnot_gate c t r h
  All-gate (cz_gate c t) r h = All-cz_gate c t r h
  All-gate (swap_gate a b) r h = All-swap_gate a b r h
  All-gate (cy_gate c t) r h = All-s_gate 3 t _ (All-cnot_gate c t _ (All-s_gate 1 t r h))

  All-turn_z : (k q : ℕ) (r : Rows A) → All o P r → All o P (turn_z o k q r)
  unfolding turn_z
  All-turn_z k q r h = pick (eqb k 2) (All-s_gate 3 q r h) (pick (eqb k 4) (All-z_gate q r h) (pick (eqb k 6) (All-s_gate 1 q r h) h))
    where
      pick : {a b : Rows A} (t : Bool) → All o P a → All o P b → All o P (cond t a b)
      pick true u v = u
      pick false u v = v

  All-turn : (kind : Kind) (k q : ℕ) (r : Rows A) → All o P r → All o P (turn o kind k q r)
  unfolding turn
  All-turn kind_x k q r h = All-h_gate q _ (All-turn_z k q _ (All-h_gate q r h))
  All-turn kind_y k q r h = All-s_gate 3 q _ (All-h_gate q _ (All-turn_z k q _ (All-h_gate q _ (All-s_gate 1 q r h))))
  All-turn kind_z k q r h = All-turn_z k q r h
  All-turn kind_p k q r h = All-turn_z k q r h

  All-axis : (kind : Kind) (q : ℕ) (r : Rows A) → All o P r → P (axis o kind q r)
  unfolding axis
  All-axis kind_x q r h = h.all_x q
  All-axis kind_y q r h = pt 1 _ (pm _ _ (h.all_x q) (h.all_z q))
  All-axis kind_z q r h = h.all_z q
  All-axis kind_p q r h = h.all_z q

-- ---- rows over n qubits

pub small_times : (n : ℕ) (a b : Pauli) → Small n a → Small n b → Small n (times a b)
unfolding times
small_times n a b h k = record {
  phase_small = mod-lt _ (lit< tt);
  x_small = xor_lt n a.x b.x h.x_small k.x_small;
  z_small = xor_lt n a.z b.z h.z_small k.z_small;
}

Small-shift : (n k : ℕ) (a : Pauli) → Small n a → Small n (shift k a)
unfolding shift
Small-shift n k a h = record { phase_small = mod-lt _ (lit< tt); x_small = h.x_small; z_small = h.z_small }

-- every row is over the n qubits
abbrev pub Within : ℕ → Rows Pauli → Type 0
Within n r = All paulis (Small n) r

pub Within-gate : (n : ℕ) (g : Gate) (r : Rows Pauli) → Within n r → Within n (gate paulis g r)
unfolding paulis
Within-gate n = All-gate paulis (Small n) (small_times n) (Small-shift n)

pub Within-turn : (n : ℕ) (kind : Kind) (k q : ℕ) (r : Rows Pauli) → Within n r → Within n (turn paulis kind k q r)
unfolding paulis
Within-turn n = All-turn paulis (Small n) (small_times n) (Small-shift n)

pub Within-axis : (n : ℕ) (kind : Kind) (q : ℕ) (r : Rows Pauli) → Within n r → Small n (axis paulis kind q r)
unfolding paulis
Within-axis n = All-axis paulis (Small n) (small_times n) (Small-shift n)

small_x : (n q : ℕ) → q < n → Small n (pauli_x q)
unfolding pauli_x
small_x n q h = record { phase_small = lit< tt; x_small = pow-lt h; z_small = pow_pos n }

small_z : (n q : ℕ) → q < n → Small n (pauli_z q)
unfolding pauli_z
small_z n q h = record { phase_small = lit< tt; x_small = pow_pos n; z_small = pow-lt h }

small_plain : (n : ℕ) → Small n plain
unfolding plain
small_plain n = record { phase_small = lit< tt; x_small = pow_pos n; z_small = pow_pos n }

get_or_all : (P : Pauli → Type 0) (f : ℕ → Pauli) (d : Pauli) → P d → (k n q : ℕ) → ((i : ℕ) → i < k + n → P (f i)) → P (get_or (map f (from k n)) q d)
unfolding from
get_or_all P f d p k zero q h = p
get_or_all P f d p k (suc n) zero h = h k (omega arith)
get_or_all P f d p k (suc n) (suc q) h = get_or_all P f d p (suc k) n q (λ i u. h i (omega arith))

pub Within-fresh : (n : ℕ) → Within n (fresh n)
unfolding fresh x_at z_at paulis
Within-fresh n = record {
  all_x = (λ q. get_or_all (Small n) pauli_x plain (small_plain n) 0 n q (λ i u. small_x n i (omega arith)));
  all_z = (λ q. get_or_all (Small n) pauli_z plain (small_plain n) 0 n q (λ i u. small_z n i (omega arith)));
}
