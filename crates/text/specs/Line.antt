-- The lines of the input, after 01, "The line program": a line's text is its shape with its values, and reading is the inverse of that. Qubits, events
-- and ids are any numbers of at most ten digits here: what is too large is refused by the call, or by the program. Assumes nothing.
use Rattle.std.specs.Prelude.{ℕ, ◌≤◌, ◌≡◌, cond, List, [], ◌∷◌, ◌++◌, eqb, ltb, length, Option, Some, None}
use Prim.Native.String.{String}
use Rattle.frame.specs.declared.axes.Kind.{Kind}
use Rattle.frame.specs.declared.axes.Kind.TheVariants as kind
use Rattle.history.specs.declared.forms.Form.{Form}
use Rattle.history.specs.declared.forms.Form.TheVariants as form
use Rattle.gating.specs.declared.gates.Gate.{Gate}
use Rattle.gating.specs.declared.gates.Gate.TheVariants as gate
use Rattle.partner.specs.declared.calls.Call.{Call}
use Rattle.partner.specs.declared.calls.Call.TheVariants as call
use Rattle.text.specs.Shape.{bytes, Good, Filled, fill, printed}
use Rattle.text.specs.Fit.{fitted, zeros}
use Rattle.text.specs.declared.shapes.Five.{Five}
use Rattle.text.specs.declared.lines.Line.{Line}
use Rattle.text.specs.declared.lines.Line.TheVariants as line

-- ---- the text of a line

-- the kinds by number, for the place of a kind: x, y, z, p
abbrev pub number_of : Kind → ℕ
number_of kind.X = 0
number_of kind.Y = 1
number_of kind.Z = 2
number_of kind.P = 3

-- "gate (a, and b for two-qubit gates, a being the control)"
abbrev pub gate_text : Gate → Filled
gate_text (gate.H q) = fill "gate=h a=#" (q ∷ [])
gate_text (gate.X q) = fill "gate=x a=#" (q ∷ [])
gate_text (gate.Y q) = fill "gate=y a=#" (q ∷ [])
gate_text (gate.Z q) = fill "gate=z a=#" (q ∷ [])
gate_text (gate.S q) = fill "gate=s a=#" (q ∷ [])
gate_text (gate.Sdg q) = fill "gate=sdg a=#" (q ∷ [])
gate_text (gate.Sx q) = fill "gate=sx a=#" (q ∷ [])
gate_text (gate.Cnot c t) = fill "gate=cnot a=# b=#" (c ∷ t ∷ [])
gate_text (gate.Cz c t) = fill "gate=cz a=# b=#" (c ∷ t ∷ [])
gate_text (gate.Swap a b) = fill "gate=swap a=# b=#" (a ∷ b ∷ [])
gate_text (gate.Cy c t) = fill "gate=cy a=# b=#" (c ∷ t ∷ [])

-- "turn (`turn=2 kind=y a=0`), [..] record, `measure=0`, `reset=0`, ccx and ccz (`ccx=0 b=1 c=2`, c the target), kill, `clear=all`"
abbrev pub call_text : Call → Filled
call_text (call.Gate g) = gate_text g
call_text (call.Turn t k q) = fill "turn=# kind=? a=#" (k ∷ number_of t ∷ q ∷ [])
call_text (call.Record t q tag) = fill "record=? a=# tag=$" (number_of t ∷ q ∷ tag ∷ [])
call_text (call.Measure q) = fill "measure=#" (q ∷ [])
call_text (call.Reset q) = fill "reset=#" (q ∷ [])
call_text (call.Ccx a b c) = fill "ccx=# b=# c=#" (a ∷ b ∷ c ∷ [])
call_text (call.Ccz a b c) = fill "ccz=# b=# c=#" (a ∷ b ∷ c ∷ [])
call_text (call.Kill id) = fill "kill=#" (id ∷ [])
call_text call.Clear = fill "clear=all" []

abbrev pub form_text : Form → Filled
form_text form.Scalar = fill "form=scalar" []
form_text form.Sliced = fill "form=sliced" []

-- "Four header lines, n label lines [..] (32 lowercase hex digits each), then operations": the 32 digits are two words, the high 64 bits first
abbrev pub line_text : Line → Filled
line_text (line.Qubits n) = fill "qubits=#" (n ∷ [])
line_text (line.Form f) = form_text f
line_text (line.Events n) = fill "events=#" (n ∷ [])
line_text (line.Steps n) = fill "steps=#" (n ∷ [])
line_text (line.Label q xh xl zh zl) = fill "label=# x=%% z=%%" (q ∷ xh ∷ xl ∷ zh ∷ zl ∷ [])
line_text (line.Call c) = call_text c
line_text (line.Look t q) = fill "look=? a=#" (number_of t ∷ q ∷ [])

abbrev pub shape_of : Line → String
shape_of l = (line_text l).shape

abbrev pub values : Line → List ℕ
values l = (line_text l).values

-- the text, without its newline
unfoldable pub text : Line → List ℕ
text l = printed (line_text l)

-- ---- what a reading answers

-- a line that may stand in the input: each value below its place's limit, and "at most 80 bytes" in all
pub record Legal (l : Line) : Type 0 where
  pub good : Good (bytes (shape_of l)) (values l)
  pub short : length (text l) ≤ 80

-- a line exactly where the text is that line's
pub record Reads (s : List ℕ) (r : Option Line) : Type 0 where
  pub only : (l : Line) → r ≡ Some l → Legal l × (text l ≡ s)
  pub all : (l : Line) → Legal l → text l ≡ s → r ≡ Some l

-- ---- the same as a function: the first of the shapes that hits. proofs/Unique.antt shows that it meets `Reads`, and that `Reads` admits no other.

unfoldable pub kind_numbered : ℕ → Kind
kind_numbered k = cond (eqb k 0) kind.X (cond (eqb k 1) kind.Y (cond (eqb k 2) kind.Z kind.P))

-- a shape, and what it makes of the values that were read by it
pub record Row : Type 0 where
  pub shape : String
  pub makes : Five → Line

abbrev pub row : String → (Five → Line) → Row
row p f = record { shape = p; makes = f }

-- all of them, as the code tries them: the header and the labels, the gates, the other calls, the look
abbrev pub header_rows : List Row
header_rows =
    row "qubits=#" (λ f. line.Qubits f.e) ∷
    row "form=scalar" (λ f. line.Form form.Scalar) ∷
    row "form=sliced" (λ f. line.Form form.Sliced) ∷
    row "events=#" (λ f. line.Events f.e) ∷
    row "steps=#" (λ f. line.Steps f.e) ∷
    row "label=# x=%% z=%%" (λ f. line.Label f.a f.b f.c f.d f.e) ∷
    []

abbrev pub gate_rows : List Row
gate_rows =
    row "gate=h a=#" (λ f. line.Call (call.Gate (gate.H f.e))) ∷
    row "gate=x a=#" (λ f. line.Call (call.Gate (gate.X f.e))) ∷
    row "gate=y a=#" (λ f. line.Call (call.Gate (gate.Y f.e))) ∷
    row "gate=z a=#" (λ f. line.Call (call.Gate (gate.Z f.e))) ∷
    row "gate=s a=#" (λ f. line.Call (call.Gate (gate.S f.e))) ∷
    row "gate=sdg a=#" (λ f. line.Call (call.Gate (gate.Sdg f.e))) ∷
    row "gate=sx a=#" (λ f. line.Call (call.Gate (gate.Sx f.e))) ∷
    row "gate=cnot a=# b=#" (λ f. line.Call (call.Gate (gate.Cnot f.d f.e))) ∷
    row "gate=cz a=# b=#" (λ f. line.Call (call.Gate (gate.Cz f.d f.e))) ∷
    row "gate=cy a=# b=#" (λ f. line.Call (call.Gate (gate.Cy f.d f.e))) ∷
    row "gate=swap a=# b=#" (λ f. line.Call (call.Gate (gate.Swap f.d f.e))) ∷
    []

abbrev pub call_rows : List Row
call_rows =
    row "turn=# kind=? a=#" (λ f. line.Call (call.Turn (kind_numbered f.d) f.c f.e)) ∷
    row "record=? a=# tag=$" (λ f. line.Call (call.Record (kind_numbered f.c) f.d f.e)) ∷
    row "measure=#" (λ f. line.Call (call.Measure f.e)) ∷
    row "reset=#" (λ f. line.Call (call.Reset f.e)) ∷
    row "ccx=# b=# c=#" (λ f. line.Call (call.Ccx f.c f.d f.e)) ∷
    row "ccz=# b=# c=#" (λ f. line.Call (call.Ccz f.c f.d f.e)) ∷
    row "kill=#" (λ f. line.Call (call.Kill f.e)) ∷
    row "clear=all" (λ f. line.Call call.Clear) ∷
    []

abbrev pub look_rows : List Row
look_rows =
    row "look=? a=#" (λ f. line.Look (kind_numbered f.d) f.e) ∷
    []

abbrev pub rows : List Row
rows = header_rows ++ (gate_rows ++ (call_rows ++ look_rows))

abbrev pub on_fit : Option Five → (Five → Line) → Option Line → Option Line
on_fit (Some f) g r = Some (g f)
on_fit None g r = r

unfoldable pub read_rows : List Row → List ℕ → Option Line
read_rows [] s = None
read_rows (r ∷ rs) s = on_fit (fitted (bytes r.shape) zeros s) r.makes (read_rows rs s)

unfoldable pub reading_of : List ℕ → Option Line
reading_of s = cond (ltb 80 (length s)) None (read_rows rows s)
