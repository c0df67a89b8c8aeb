-- The paper's definitions, computed: the letters, the exponents of their products, every gate of 01 on all letters of one or two qubits and rows of
-- gates backwards on X0, X1, Z0 and Z1, all against matrices (tools/gate_images.py); and that our frame and our readings agree. Assumes nothing.
use Prim.Native.Nat.{ℕ}
use mathlib.Core.Path.{◌≡◌, refl}
use mathlib.Core.List.{List, [], ◌∷◌, map, ◌++◌}
use lib.IntN.{ℤ, pos, negsuc}
use Rattle.model.specs.Pauli.{count_in, count, times, shift, plain, quarter}
use Rattle.model.specs.Frame.{Gate, h_gate, x_gate, y_gate, z_gate, s_gate, sdg_gate, sx_gate, cnot_gate, cz_gate, swap_gate, cy_gate, kind_x, kind_z, x_at, z_at, set_x, set_z, gate_h, gate_s, gate_z, gate_x, gate_cnot, gate_cz, gate_swap, gate, paulis, from, pauli_x, pauli_z, fresh}
use Rattle.paper.specs.Tableau.{Row, Letter, letter, letter_i, bit, plus, add, update, run, undo, inverse, g, exponent, mod4, total, rowsum}
use Rattle.paper.specs.Bridge.{to_row, of_row, single, circuit, circuits, gates}

-- a row with the sign bit 0
unfoldable pub plain_row : (x z : ℕ) → Row
plain_row x z = record { r = 0; x = x; z = z }

unfoldable pub triple : Row → List ℕ
triple w = w.r ∷ w.x ∷ w.z ∷ []

-- I, X, Y and Z on qubit 0
unfoldable pub on_one : List Row
on_one = plain_row 0 0 ∷ plain_row 1 0 ∷ plain_row 1 1 ∷ plain_row 0 1 ∷ []

-- the sixteen letters on two qubits, by X bits and then Z bits
unfoldable pub with_x : ℕ → List Row
with_x x = plain_row x 0 ∷ plain_row x 1 ∷ plain_row x 2 ∷ plain_row x 3 ∷ []

unfoldable pub on_two : List Row
on_two = with_x 0 ++ (with_x 1 ++ (with_x 2 ++ with_x 3))

-- GPG†
unfoldable pub one : Gate → List (List ℕ)
one f = map (λ w. triple (run (circuit f) w)) on_one

unfoldable pub two : Gate → List (List ℕ)
two f = map (λ w. triple (run (circuit f) w)) on_two

-- U†PU of X0, X1, Z0 and Z1, by the paper's updates, and the rows of our frame
unfoldable pub through : List Gate → List (List ℕ)
through fs = map (λ w. triple (run (inverse (circuits fs)) w)) (single kind_x 0 ∷ single kind_x 1 ∷ single kind_z 0 ∷ single kind_z 1 ∷ [])

unfoldable pub ours : List Gate → List (List ℕ)
ours fs = map (λ p. triple (to_row p)) ((gates fs (fresh 2)).xs ++ (gates fs (fresh 2)).zs)

-- the exponent of i in the product of two letters, I, X, Y and Z in front of each of I, X, Y and Z
unfoldable pub factors : List ℤ
factors =
    g 0 0 0 0 ∷ g 0 0 1 0 ∷ g 0 0 1 1 ∷ g 0 0 0 1 ∷ g 1 0 0 0 ∷ g 1 0 1 0 ∷ g 1 0 1 1 ∷ g 1 0 0 1
    ∷ g 1 1 0 0 ∷ g 1 1 1 0 ∷ g 1 1 1 1 ∷ g 1 1 0 1 ∷ g 0 1 0 0 ∷ g 0 1 1 0 ∷ g 0 1 1 1 ∷ g 0 1 0 1 ∷ []

pub record Tables : Type 0 where
  pub names : map (λ w. letter (bit w.x 0) (bit w.z 0)) on_one ≡ letter_i ∷ Letter.letter_x ∷ Letter.letter_y ∷ Letter.letter_z ∷ []
  pub letters : factors ≡ pos 0 ∷ pos 0 ∷ pos 0 ∷ pos 0 ∷ pos 0 ∷ pos 0 ∷ pos 1 ∷ negsuc 0 ∷ pos 0 ∷ negsuc 0 ∷ pos 0 ∷ pos 1 ∷ pos 0 ∷ pos 1 ∷ negsuc 0 ∷ pos 0 ∷ []
  pub h : one (h_gate 0) ≡ (0 ∷ 0 ∷ 0 ∷ []) ∷ (0 ∷ 0 ∷ 1 ∷ []) ∷ (1 ∷ 1 ∷ 1 ∷ []) ∷ (0 ∷ 1 ∷ 0 ∷ []) ∷ []
  pub x : one (x_gate 0) ≡ (0 ∷ 0 ∷ 0 ∷ []) ∷ (0 ∷ 1 ∷ 0 ∷ []) ∷ (1 ∷ 1 ∷ 1 ∷ []) ∷ (1 ∷ 0 ∷ 1 ∷ []) ∷ []
  pub y : one (y_gate 0) ≡ (0 ∷ 0 ∷ 0 ∷ []) ∷ (1 ∷ 1 ∷ 0 ∷ []) ∷ (0 ∷ 1 ∷ 1 ∷ []) ∷ (1 ∷ 0 ∷ 1 ∷ []) ∷ []
  pub z : one (z_gate 0) ≡ (0 ∷ 0 ∷ 0 ∷ []) ∷ (1 ∷ 1 ∷ 0 ∷ []) ∷ (1 ∷ 1 ∷ 1 ∷ []) ∷ (0 ∷ 0 ∷ 1 ∷ []) ∷ []
  pub s : one (s_gate 0) ≡ (0 ∷ 0 ∷ 0 ∷ []) ∷ (0 ∷ 1 ∷ 1 ∷ []) ∷ (1 ∷ 1 ∷ 0 ∷ []) ∷ (0 ∷ 0 ∷ 1 ∷ []) ∷ []
  pub sdg : one (sdg_gate 0) ≡ (0 ∷ 0 ∷ 0 ∷ []) ∷ (1 ∷ 1 ∷ 1 ∷ []) ∷ (0 ∷ 1 ∷ 0 ∷ []) ∷ (0 ∷ 0 ∷ 1 ∷ []) ∷ []
  pub sx : one (sx_gate 0) ≡ (0 ∷ 0 ∷ 0 ∷ []) ∷ (0 ∷ 1 ∷ 0 ∷ []) ∷ (0 ∷ 0 ∷ 1 ∷ []) ∷ (1 ∷ 1 ∷ 1 ∷ []) ∷ []
  pub cnot : two (cnot_gate 0 1)
      ≡ (0 ∷ 0 ∷ 0 ∷ []) ∷ (0 ∷ 0 ∷ 1 ∷ []) ∷ (0 ∷ 0 ∷ 3 ∷ []) ∷ (0 ∷ 0 ∷ 2 ∷ []) ∷ (0 ∷ 3 ∷ 0 ∷ []) ∷ (0 ∷ 3 ∷ 1 ∷ []) ∷ (1 ∷ 3 ∷ 3 ∷ [])
      ∷ (0 ∷ 3 ∷ 2 ∷ []) ∷ (0 ∷ 2 ∷ 0 ∷ []) ∷ (0 ∷ 2 ∷ 1 ∷ []) ∷ (0 ∷ 2 ∷ 3 ∷ []) ∷ (0 ∷ 2 ∷ 2 ∷ []) ∷ (0 ∷ 1 ∷ 0 ∷ []) ∷ (0 ∷ 1 ∷ 1 ∷ [])
      ∷ (0 ∷ 1 ∷ 3 ∷ []) ∷ (1 ∷ 1 ∷ 2 ∷ []) ∷ []
  pub cz : two (cz_gate 0 1)
      ≡ (0 ∷ 0 ∷ 0 ∷ []) ∷ (0 ∷ 0 ∷ 1 ∷ []) ∷ (0 ∷ 0 ∷ 2 ∷ []) ∷ (0 ∷ 0 ∷ 3 ∷ []) ∷ (0 ∷ 1 ∷ 2 ∷ []) ∷ (0 ∷ 1 ∷ 3 ∷ []) ∷ (0 ∷ 1 ∷ 0 ∷ [])
      ∷ (0 ∷ 1 ∷ 1 ∷ []) ∷ (0 ∷ 2 ∷ 1 ∷ []) ∷ (0 ∷ 2 ∷ 0 ∷ []) ∷ (0 ∷ 2 ∷ 3 ∷ []) ∷ (0 ∷ 2 ∷ 2 ∷ []) ∷ (0 ∷ 3 ∷ 3 ∷ []) ∷ (1 ∷ 3 ∷ 2 ∷ [])
      ∷ (1 ∷ 3 ∷ 1 ∷ []) ∷ (0 ∷ 3 ∷ 0 ∷ []) ∷ []
  pub swap : two (swap_gate 0 1)
      ≡ (0 ∷ 0 ∷ 0 ∷ []) ∷ (0 ∷ 0 ∷ 2 ∷ []) ∷ (0 ∷ 0 ∷ 1 ∷ []) ∷ (0 ∷ 0 ∷ 3 ∷ []) ∷ (0 ∷ 2 ∷ 0 ∷ []) ∷ (0 ∷ 2 ∷ 2 ∷ []) ∷ (0 ∷ 2 ∷ 1 ∷ [])
      ∷ (0 ∷ 2 ∷ 3 ∷ []) ∷ (0 ∷ 1 ∷ 0 ∷ []) ∷ (0 ∷ 1 ∷ 2 ∷ []) ∷ (0 ∷ 1 ∷ 1 ∷ []) ∷ (0 ∷ 1 ∷ 3 ∷ []) ∷ (0 ∷ 3 ∷ 0 ∷ []) ∷ (0 ∷ 3 ∷ 2 ∷ [])
      ∷ (0 ∷ 3 ∷ 1 ∷ []) ∷ (0 ∷ 3 ∷ 3 ∷ []) ∷ []
  pub cy : two (cy_gate 0 1)
      ≡ (0 ∷ 0 ∷ 0 ∷ []) ∷ (0 ∷ 0 ∷ 1 ∷ []) ∷ (0 ∷ 0 ∷ 3 ∷ []) ∷ (0 ∷ 0 ∷ 2 ∷ []) ∷ (0 ∷ 3 ∷ 2 ∷ []) ∷ (0 ∷ 3 ∷ 3 ∷ []) ∷ (0 ∷ 3 ∷ 1 ∷ [])
      ∷ (1 ∷ 3 ∷ 0 ∷ []) ∷ (0 ∷ 2 ∷ 1 ∷ []) ∷ (0 ∷ 2 ∷ 0 ∷ []) ∷ (0 ∷ 2 ∷ 2 ∷ []) ∷ (0 ∷ 2 ∷ 3 ∷ []) ∷ (1 ∷ 1 ∷ 3 ∷ []) ∷ (0 ∷ 1 ∷ 2 ∷ [])
      ∷ (0 ∷ 1 ∷ 0 ∷ []) ∷ (0 ∷ 1 ∷ 1 ∷ []) ∷ []
  pub h_then_s : through (h_gate 0 ∷ s_gate 0 ∷ []) ≡ (0 ∷ 1 ∷ 1 ∷ []) ∷ (0 ∷ 2 ∷ 0 ∷ []) ∷ (0 ∷ 1 ∷ 0 ∷ []) ∷ (0 ∷ 0 ∷ 2 ∷ []) ∷ []
  pub s_then_h : through (s_gate 0 ∷ h_gate 0 ∷ []) ≡ (0 ∷ 0 ∷ 1 ∷ []) ∷ (0 ∷ 2 ∷ 0 ∷ []) ∷ (1 ∷ 1 ∷ 1 ∷ []) ∷ (0 ∷ 0 ∷ 2 ∷ []) ∷ []
  pub five : through (s_gate 0 ∷ cnot_gate 0 1 ∷ h_gate 1 ∷ s_gate 1 ∷ cz_gate 0 1 ∷ []) ≡ (1 ∷ 1 ∷ 1 ∷ []) ∷ (0 ∷ 2 ∷ 2 ∷ []) ∷ (0 ∷ 0 ∷ 1 ∷ []) ∷ (0 ∷ 2 ∷ 0 ∷ []) ∷ []
  pub six : through (sx_gate 0 ∷ cy_gate 0 1 ∷ swap_gate 0 1 ∷ sdg_gate 0 ∷ cnot_gate 1 0 ∷ h_gate 0 ∷ []) ≡ (0 ∷ 0 ∷ 2 ∷ []) ∷ (0 ∷ 1 ∷ 0 ∷ []) ∷ (0 ∷ 2 ∷ 2 ∷ []) ∷ (0 ∷ 1 ∷ 1 ∷ []) ∷ []
  -- our frame has the same rows
  pub ours_too : (ours (h_gate 0 ∷ s_gate 0 ∷ []) ≡ through (h_gate 0 ∷ s_gate 0 ∷ [])) × (ours (s_gate 0 ∷ h_gate 0 ∷ []) ≡ through (s_gate 0 ∷ h_gate 0 ∷ []))
      × (ours (s_gate 0 ∷ cnot_gate 0 1 ∷ h_gate 1 ∷ s_gate 1 ∷ cz_gate 0 1 ∷ []) ≡ through (s_gate 0 ∷ cnot_gate 0 1 ∷ h_gate 1 ∷ s_gate 1 ∷ cz_gate 0 1 ∷ []))
      × (ours (sx_gate 0 ∷ cy_gate 0 1 ∷ swap_gate 0 1 ∷ sdg_gate 0 ∷ cnot_gate 1 0 ∷ h_gate 0 ∷ []) ≡ through (sx_gate 0 ∷ cy_gate 0 1 ∷ swap_gate 0 1 ∷ sdg_gate 0 ∷ cnot_gate 1 0 ∷ h_gate 0 ∷ []))
  -- a Y is iXZ in our form, and -Y is -iXZ
  pub as_y : (of_row (plain_row 1 1) ≡ record { phase = 1; x = 1; z = 1 }) × (to_row (record { phase = 3; x = 1; z = 1 }) ≡ record { r = 1; x = 1; z = 1 })
  -- X0X1 and Z0Z1 by the rowsum: -Y0Y1
  pub sum : rowsum 2 (plain_row 3 0) (plain_row 0 3) ≡ record { r = 1; x = 3; z = 3 }

pub tables : Tables
unfolding letter count_in count times shift plain quarter x_at z_at set_x set_z gate_h gate_s gate_z gate_x gate_cnot gate_cz gate_swap gate paulis from pauli_x pauli_z fresh bit plus add update run undo inverse g exponent mod4 total rowsum to_row of_row single circuit circuits gates plain_row triple on_one with_x on_two one two through ours factors
tables = record {
  names = refl;
  letters = refl;
  h = refl;
  x = refl;
  y = refl;
  z = refl;
  s = refl;
  sdg = refl;
  sx = refl;
  cnot = refl;
  cz = refl;
  swap = refl;
  cy = refl;
  h_then_s = refl;
  s_then_h = refl;
  five = refl;
  six = refl;
  ours_too = (refl, refl, refl, refl);
  as_y = (refl, refl);
  sum = refl;
}
