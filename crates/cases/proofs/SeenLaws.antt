-- What the words of a row on one qubit say of its number. Assumes nothing.
use mathlib.Core.Path.{◌≡◌, refl, sym, ap, ap₂, ◌∙◌}
use mathlib.Core.Bool.{Bool, cond, ◌&&◌}
use mathlib.Core.List.{List}
use Prim.Native.Nat.{ℕ}
use native.Mathlib.Nat.{zero-add}
use lib.Dec.{eqb}
use lib.ListN.{get_or}
use borrow.Author.Tests.{eq-eqb, ne_eqb}
use Rattle.model.specs.Pauli.{Pauli, count_in, count, times, shift, plain, quarter, sign_of, sign}
use Rattle.model.specs.Frame.{s_gate, sdg_gate, sx_gate, kind_y, x_at, z_at, set_x, set_z, gate_h, gate_s, gate, axis, paulis, from, pauli_x, pauli_z, fresh}
use Rattle.pauli.specs.Rows.{value_at, answer}
use Rattle.std.proofs.Common.{ℤ, Option}
use Rattle.frame.specs.declared.axes.Basis.TheVariants as basis
use Rattle.frame.specs.Places.{IsRow}
use Rattle.frame.specs.Axes.{either, axis_of}
use Rattle.cases.specs.Seen.{number_of, of_y}

module _ (row : List ℕ) (p : Pauli) (r : IsRow 1 row 0 p) where
  x_word : p.x ≡ get_or row 1 0
  unfolding value_at
  x_word = sym r.x ∙ zero-add (get_or row 1 0)

  z_word : p.z ≡ get_or row 2 0
  unfolding value_at
  z_word = sym r.z ∙ zero-add (get_or row 2 0)

  pub is_y : (g : Option ℤ) (n : ℕ) → get_or row 1 0 ≡ 1 → get_or row 2 0 ≡ 1 → g ≡ answer (sign p) → n ≡ number_of g → n ≡ of_y p
  unfolding of_y
  is_y g n hx hz e f =
      f ∙ ap number_of e
      ∙ sym (ap₂ (λ (a b : Bool). cond (a && b) (number_of (answer (sign p))) 3) (eq-eqb p.x 1 (x_word ∙ hx)) (eq-eqb p.z 1 (z_word ∙ hz)))

  pub no_x : (get_or row 1 0 ≡ 1 → ⊥) → 3 ≡ of_y p
  unfolding of_y
  no_x h = sym (ap (λ (a : Bool). cond (a && eqb p.z 1) (number_of (answer (sign p))) 3) (ne_eqb p.x 1 (λ e. h (sym x_word ∙ e))))

  pub no_z : get_or row 1 0 ≡ 1 → (get_or row 2 0 ≡ 1 → ⊥) → 3 ≡ of_y p
  unfolding of_y
  no_z hx h =
      sym (ap₂ (λ (a b : Bool). cond (a && b) (number_of (answer (sign p))) 3) (eq-eqb p.x 1 (x_word ∙ hx)) (ne_eqb p.z 1 (λ e. h (sym z_word ∙ e))))

-- ---- the four cases, computed

pub case5_is : number_of (answer (sign (axis paulis kind_y 0 (fresh 1)))) ≡ 1
unfolding count_in count times shift plain quarter sign_of sign x_at z_at set_x set_z gate_h gate_s gate axis paulis from pauli_x pauli_z fresh answer either axis_of number_of of_y
case5_is = refl

pub case6_is : of_y (axis_of basis.X (gate paulis (s_gate 0) (fresh 1)) 0) ≡ 2
unfolding count_in count times shift plain quarter sign_of sign x_at z_at set_x set_z gate_h gate_s gate axis paulis from pauli_x pauli_z fresh answer either axis_of number_of of_y
case6_is = refl

pub case7_is : of_y (axis_of basis.X (gate paulis (sdg_gate 0) (fresh 1)) 0) ≡ 1
unfolding count_in count times shift plain quarter sign_of sign x_at z_at set_x set_z gate_h gate_s gate axis paulis from pauli_x pauli_z fresh answer either axis_of number_of of_y
case7_is = refl

pub case8_is : of_y (axis_of basis.Z (gate paulis (sx_gate 0) (fresh 1)) 0) ≡ 1
unfolding count_in count times shift plain quarter sign_of sign x_at z_at set_x set_z gate_h gate_s gate axis paulis from pauli_x pauli_z fresh answer either axis_of number_of of_y
case8_is = refl
