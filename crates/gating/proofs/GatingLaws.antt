-- A gate, its qubits and a turn along the equations that the code has found. Assumes nothing.
use mathlib.Core.Path.{◌≡◌, refl, sym, ap, ◌∙◌}
use mathlib.Core.Logic.{◌≢◌}
use mathlib.Core.Bool.{Bool, true, false, cond}
use mathlib.Core.List.{[], ◌∷◌}
use Prim.Native.Nat.{ℕ, zero, suc, ◌%◌, ◌≤◌, ◌<◌}
use native.Mathlib.Omega.{arith}
use borrow.Author.Tests.{ne_eqb}
use Rattle.model.specs.Frame.{Ops, turn}
use Rattle.model.specs.Frame as model
use Rattle.model.specs.Calls.{gate_qubits}
use Rattle.model.specs.Demands.{Fits}
use Rattle.store.specs.Promises.{turn_known, qubit_number}
use Rattle.store.proofs.SizeLaws.{single_says, pair_says}
use Rattle.gating.specs.Gates.{turn_number}

-- ---- the turns that are known

pub even_turn : (k : ℕ) → k ≤ 6 → (k % 2 ≡ 1 → ⊥) → turn_known k ≡ true
unfolding turn_known
even_turn zero h e = refl
even_turn (suc zero) h e = absurd (e refl)
even_turn (suc (suc zero)) h e = refl
even_turn (suc (suc (suc zero))) h e = absurd (e refl)
even_turn (suc (suc (suc (suc zero)))) h e = refl
even_turn (suc (suc (suc (suc (suc zero))))) h e = absurd (e refl)
even_turn (suc (suc (suc (suc (suc (suc zero)))))) h e = refl
even_turn (suc (suc (suc (suc (suc (suc (suc k))))))) h e = absurd (omega arith)

no_turn : (k : ℕ) → k ≢ 0 → k ≢ 2 → k ≢ 4 → k ≢ 6 → turn_known k ≡ false
unfolding turn_known
no_turn k a b c d = rw (ne_eqb k 0 a, ne_eqb k 2 b, ne_eqb k 4 c, ne_eqb k 6 d) refl

pub large_turn : (k : ℕ) → 6 < k → turn_known k ≡ false
large_turn k h = no_turn k (λ e. omega arith) (λ e. omega arith) (λ e. omega arith) (λ e. omega arith)

pub odd_turn : (k : ℕ) → k % 2 ≡ 1 → turn_known k ≡ false
odd_turn k h = no_turn k (λ e. omega arith) (λ e. omega arith) (λ e. omega arith) (λ e. omega arith)

-- ---- the numbers of the refusals

-- a gate that is not refused for its qubits
pub qubits_fit : (n : ℕ) (g : model.Gate) → qubit_number n (gate_qubits g) ≡ 0 → Fits n g
unfolding gate_qubits
qubits_fit n (model.h_gate q) e = single_says n q e
qubits_fit n (model.x_gate q) e = single_says n q e
qubits_fit n (model.y_gate q) e = single_says n q e
qubits_fit n (model.z_gate q) e = single_says n q e
qubits_fit n (model.s_gate q) e = single_says n q e
qubits_fit n (model.sdg_gate q) e = single_says n q e
qubits_fit n (model.sx_gate q) e = single_says n q e
qubits_fit n (model.cnot_gate c t) e = pair_says n c t e
qubits_fit n (model.cz_gate c t) e = pair_says n c t e
qubits_fit n (model.swap_gate a b) e = pair_says n a b e
qubits_fit n (model.cy_gate c t) e = pair_says n c t e

pub turn_qubit : (n k q a : ℕ) → turn_known k ≡ true → a ≡ qubit_number n (q ∷ []) → a ≡ turn_number n k q
unfolding turn_number
turn_qubit n k q a e d = d ∙ sym (ap (λ (i : Bool). cond i (qubit_number n (q ∷ [])) 8) e)

pub turn_none : (n k q : ℕ) → turn_known k ≡ false → 8 ≡ turn_number n k q
unfolding turn_number
turn_none n k q e = sym (ap (λ (i : Bool). cond i (qubit_number n (q ∷ [])) 8) e)

-- a turn that is not refused
pub turn_fits : (n k q : ℕ) → turn_number n k q ≡ 0 → q < n
unfolding turn_number
turn_fits n k q e = go (turn_known k) e
  where
    go : (b : Bool) → ◌≡◌ {A = ℕ} (cond b (qubit_number n (q ∷ [])) 8) 0 → q < n
    go true e = single_says n q e
    go false e = omega (arith, e)
