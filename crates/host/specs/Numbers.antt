-- The numbers by which a host names gates, kinds and forms, as include/tillbonnet.h lists them. Assumes nothing.
use Rattle.std.specs.Prelude.{List, [], ◌∷◌, map, ℕ, get_or}
use Rattle.model.specs.Frame.{Gate, h_gate, x_gate, y_gate, z_gate, s_gate, sdg_gate, sx_gate, cnot_gate, cz_gate, cy_gate, swap_gate, Kind, kind_x, kind_y, kind_z, kind_p}
use Rattle.model.specs.Events.{Form, scalar, sliced}

-- what a number names, or that it names nothing
pub data Meant (A : Type 0) : Type 0 where
  known : A → Meant A
  unknown : Meant A

-- the gates in the order of their numbers, from 0 on; a gate on one qubit has no use for b
abbrev pub gates : (a b : ℕ) → List Gate
gates a b = h_gate a ∷ x_gate a ∷ y_gate a ∷ z_gate a ∷ s_gate a ∷ sdg_gate a ∷ sx_gate a ∷ cnot_gate a b ∷ cz_gate a b ∷ cy_gate a b ∷ swap_gate a b ∷ []

abbrev pub kinds : List Kind
kinds = kind_x ∷ kind_y ∷ kind_z ∷ kind_p ∷ []

abbrev pub forms : List Form
forms = scalar ∷ sliced ∷ []

-- the thing in place `number`, if there is one
unfoldable pub named : {A : Type 0} → List A → (number : ℕ) → Meant A
named xs number = get_or (map known xs) number unknown
