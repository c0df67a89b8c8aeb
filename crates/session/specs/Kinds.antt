-- A line to one who waits for one kind of line: f of what it holds if it is of that kind, else g. Assumes nothing.
use Rattle.std.specs.Prelude.{ℕ}
use Rattle.frame.specs.declared.axes.Kind.{Kind}
use Rattle.history.specs.declared.forms.Form as forms
use Rattle.partner.specs.declared.calls.Call as calls
use Rattle.text.specs.declared.lines.Line.{Line}
use Rattle.text.specs.declared.lines.Line.TheVariants.{Qubits, Form, Events, Steps, Label, Call, Look}

module _ {A : Type 0} where
  abbrev pub as_qubits : Line → (ℕ → A) → A → A
  as_qubits (Qubits n) f g = f n
  as_qubits (Form x) f g = g
  as_qubits (Events e) f g = g
  as_qubits (Steps a) f g = g
  as_qubits (Label q xh xl zh zl) f g = g
  as_qubits (Call c) f g = g
  as_qubits (Look kind q) f g = g

  abbrev pub as_form : Line → (forms.Form → A) → A → A
  as_form (Qubits n) f g = g
  as_form (Form x) f g = f x
  as_form (Events e) f g = g
  as_form (Steps a) f g = g
  as_form (Label q xh xl zh zl) f g = g
  as_form (Call c) f g = g
  as_form (Look kind q) f g = g

  abbrev pub as_events : Line → (ℕ → A) → A → A
  as_events (Qubits n) f g = g
  as_events (Form x) f g = g
  as_events (Events e) f g = f e
  as_events (Steps a) f g = g
  as_events (Label q xh xl zh zl) f g = g
  as_events (Call c) f g = g
  as_events (Look kind q) f g = g

  abbrev pub as_steps : Line → (ℕ → A) → A → A
  as_steps (Qubits n) f g = g
  as_steps (Form x) f g = g
  as_steps (Events e) f g = g
  as_steps (Steps a) f g = f a
  as_steps (Label q xh xl zh zl) f g = g
  as_steps (Call c) f g = g
  as_steps (Look kind q) f g = g

  abbrev pub as_label : Line → ((q xh xl zh zl : ℕ) → A) → A → A
  as_label (Qubits n) f g = g
  as_label (Form x) f g = g
  as_label (Events e) f g = g
  as_label (Steps a) f g = g
  as_label (Label q xh xl zh zl) f g = f q xh xl zh zl
  as_label (Call c) f g = g
  as_label (Look kind q) f g = g

  -- an operation: a call that writes, or a look
  abbrev pub as_operation : Line → (calls.Call → A) → (Kind → ℕ → A) → A → A
  as_operation (Qubits n) f h g = g
  as_operation (Form x) f h g = g
  as_operation (Events e) f h g = g
  as_operation (Steps a) f h g = g
  as_operation (Label q xh xl zh zl) f h g = g
  as_operation (Call c) f h g = f c
  as_operation (Look kind q) f h g = h kind q
