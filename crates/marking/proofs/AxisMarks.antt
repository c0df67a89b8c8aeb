-- Laws of an event and the row that is recorded as its axis. Assumes nothing.
use mathlib.Core.Path.{◌≡◌, refl, sym, ap, ap₂, ◌∙◌}
use mathlib.Core.List.{List}
use Prim.Native.Nat.{ℕ, ◌+◌, ◌*◌}
use lib.IntN.{ℤ}
use lib.ListN.{length}
use Rattle.model.specs.Pauli.{Pauli, sign}
use Rattle.model.specs.Frame.{Rows, axis, paulis}
use Rattle.model.specs.Sketch.{Label, labels}
use Rattle.model.specs.Events.{rotation, State, blocker_on}
use Rattle.model.specs.Calls.{rotation_of}
use Rattle.model.specs.Demands.{Small}
use Rattle.model.proofs.Good.{EventOk}
use Rattle.pauli.specs.Rows.{x_of, z_of, of_row}
use Rattle.pauli.proofs.Words.{rest_part}
use Rattle.frame.specs.Places.{IsRow}
use Rattle.frame.specs.Axes.{kind_of, tag_of}
use Rattle.frame.specs.declared.axes.Kind.{Kind}
use Rattle.frame.specs.declared.axes.Tag.{Tag}
use Rattle.frame.proofs.AxisLaws.{behind, x_behind, z_behind}
use Rattle.history.specs.Phases.{label_of}
use Rattle.history.specs.Readings.{body_of}
use Rattle.history.specs.Recordings.{Recorded}
use Rattle.history.specs.declared.events.Body.TheVariants.{Rotation, Blocker}
use Rattle.marking.specs.Axes.{Sets}
use Rattle.marking.proofs.RowMarks.{row_Sets}

-- the axis behind the row's phase has the row's sets
pub x_axis : (l : ℕ) (row : List ℕ) (p : Pauli) → length row ≡ 2 * l + 1 → Sets l row p → (of_row 0 (behind 1 row)).x ≡ p.x
unfolding of_row
x_axis l row p e h = ap x_of (rest_part row 1) ∙ x_behind l row e ∙ h.x

pub z_axis : (l : ℕ) (row : List ℕ) (p : Pauli) → length row ≡ 2 * l + 1 → Sets l row p → (of_row 0 (behind 1 row)).z ≡ p.z
unfolding of_row
z_axis l row p e h = ap z_of (rest_part row 1) ∙ z_behind l row e ∙ h.z

pub blocker_Recorded : (n l : ℕ) (row : List ℕ) (p : Pauli) → length row ≡ 2 * l + 1 → Sets l row p → Small n p → Recorded n (behind 1 row) Blocker (blocker_on p)
unfolding blocker_on body_of
blocker_Recorded n l row p e h b =
    record { live = refl; is = refl; x = x_axis l row p e h; z = z_axis l row p e h; small_x = b.x_small; small_z = b.z_small }

-- the rotation about the axis of a kind, with its sign and label
pub rotation_Recorded : (n l q tag : ℕ) (row : List ℕ) (kind : Kind) (m : State) (o : Rows Label) (g : ℤ) (t : Tag) → length row ≡ 2 * l + 1
    → IsRow l row 0 (axis paulis (kind_of kind) q m.frame) → g ≡ sign (axis paulis (kind_of kind) q m.frame) → tag_of t ≡ axis labels (kind_of kind) q m.sketch
    → EventOk o n (rotation_of (kind_of kind) q tag m) → Recorded n (behind 1 row) (Rotation tag g t.high t.low) (rotation_of (kind_of kind) q tag m)
unfolding rotation_of body_of label_of tag_of
rotation_Recorded n l q tag row kind m o g t e h eg et ok =
    let p : Pauli = axis paulis (kind_of kind) q m.frame in
    record {
      live = refl;
      is = sym (ap₂ (λ (s : ℤ) (b : Label). rotation tag s b) eg et);
      x = x_axis l row p e (row_Sets l row p h);
      z = z_axis l row p e (row_Sets l row p h);
      small_x = ok.small_x;
      small_z = ok.small_z;
    }
