-- The row and the label of an axis as the code reads them off a frame's words. Assumes nothing.
use Rattle.std.specs.Prelude.{◌≡◌, List, ℕ, ◌+◌, ◌*◌, ◌≤◌, ◌<◌, length, get_or, take, drop}
use Rattle.std.specs.Int.Bits.{bit_xor}
use Rattle.model.specs.Pauli.{Pauli}
use Rattle.model.specs.Frame as model
use Rattle.model.specs.Frame.{Rows, x_at, z_at, paulis}
use Rattle.model.specs.Sketch.{Label}
use Rattle.frame.specs.declared.axes.Basis.{Basis}
use Rattle.frame.specs.declared.axes.Basis.TheVariants as basis
use Rattle.frame.specs.declared.axes.Kind.{Kind}
use Rattle.frame.specs.declared.axes.Kind.TheVariants.{X, Y, Z, P}
use Rattle.frame.specs.declared.axes.Tag.{Tag}

-- ---- rows

-- where the row of qubit q begins, in words from the first row of its family on: every other row is of the family
abbrev pub stride : (l q : ℕ) → ℕ
stride l q = q * 2 * (2 * l + 1)

-- the words have the row of qubit q
abbrev pub Reaches : (l q : ℕ) → List ℕ → Type 0
Reaches l q s = stride l q + (2 * l + 1) ≤ length s

-- the row's words, phase first
unfoldable pub words_of_row : (l q : ℕ) → List ℕ → List ℕ
words_of_row l q s = take (2 * l + 1) (drop (stride l q) s)

-- the first where the row is an X row, else the second
unfoldable pub either : {A : Type 0} → Basis → A → A → A
either basis.X a b = a
either basis.Z a b = b

-- the row x[q] or z[q]
unfoldable pub axis_of : Basis → Rows Pauli → ℕ → Pauli
unfolding either
axis_of b r q = either b (x_at paulis r q) (z_at paulis r q)

-- t is one word and behind it the n words of s from `at` on xored with those from `by` on
pub record Both (s : List ℕ) (at by n : ℕ) (t : List ℕ) : Type 0 where
  pub long : length t ≡ n + 1
  pub word : (i : ℕ) → i < n → get_or t (1 + i) 0 ≡ bit_xor (get_or s (at + i) 0) (get_or s (by + i) 0)

-- ---- labels

-- the code's kinds and labels are `model`'s
unfoldable pub kind_of : Kind → model.Kind
kind_of X = model.kind_x
kind_of Y = model.kind_y
kind_of Z = model.kind_z
kind_of P = model.kind_p

unfoldable pub tag_of : Tag → Label
tag_of t = record { high = t.high; low = t.low }
