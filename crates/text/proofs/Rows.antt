-- The rows by number, and the rows tried one behind the other: one with no places makes the same line of all values (`lines::read_header` and `lines::read_call`). Assumes nothing.
use Prim.Native.Nat.{ℕ}
use mathlib.Core.List.{List}
use lib.ListN.{get_or}
use Rattle.text.specs.Shape.{bytes}
use Rattle.partner.specs.declared.calls.Call.TheVariants as call
use Rattle.text.specs.declared.lines.Line.TheVariants as line
use mathlib.Core.Path.{◌≡◌, refl, sym}
use mathlib.Core.Bool.{true, false, false≢true}
use Rattle.std.specs.Prelude.{Option, Some, None, is_some}
use Rattle.text.specs.Line.{Row, row, rows, on_fit}
use Rattle.text.specs.declared.shapes.Five.{Five}
use Rattle.text.specs.declared.lines.Line.{Line}

-- the rows by number, for a number below 26

abbrev pub row_at : ℕ → Row
row_at k = get_or rows k (row "" (λ f. line.Call call.Clear))

abbrev pub shape_at : ℕ → List ℕ
shape_at k = bytes (row_at k).shape

abbrev pub line_of : ℕ → Five → Option Line
line_of k f = Some ((row_at k).makes f)

-- ---- a row with no places

pub bare : (o : Option Five) (l : Line) (r : Option Line) → true ≡ is_some o → Some l ≡ on_fit o (λ f. l) r
bare (Some f) l r e = refl
bare None l r e = absurd (false≢true (sym e))

pub unfit : (o p : Option Five) → o ≡ p → false ≡ is_some o → None ≡ p
unfit (Some f) p e h = absurd (false≢true h)
unfit None p e h = e
