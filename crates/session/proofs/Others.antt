-- Lines that are not of the kind that is waited for: the tags of the other kinds, as a `match` has them in its last arm. Assumes nothing.
use Prim.Native.Nat.{ℕ}
use mathlib.Core.Path.{◌≡◌, refl}
use mathlib.Core.List.{List, [], ◌∷◌}
use types.Run.{OneOf, miss}
use denote.Enum.Declared.{tag_of}
use Rattle.frame.specs.declared.axes.Kind.{Kind}
use Rattle.history.specs.declared.forms.Form as forms
use Rattle.partner.specs.declared.calls.Call as calls
use Rattle.text.specs.contracts.lines.Line.{the_type}
use Rattle.text.specs.declared.lines.Line.{Line}
use Rattle.text.specs.declared.lines.Line.TheVariants.{Qubits, Form, Events, Steps, Label, Call, Look}
use Rattle.session.specs.Kinds.{as_qubits, as_form, as_events, as_steps, as_label, as_operation}

-- the tag of the line is one of these
abbrev pub OfTags : List ℕ → Line → Type 0
OfTags ks l = OneOf ks (tag_of the_type l)

module _ {A : Type 0} (g : A) where
  pub no_qubits : (l : Line) (f : ℕ → A) → OfTags (1 ∷ 2 ∷ 3 ∷ 4 ∷ 5 ∷ 6 ∷ []) l → as_qubits l f g ≡ g
  no_qubits (Qubits n) f h = absurd (miss (1 ∷ 2 ∷ 3 ∷ 4 ∷ 5 ∷ 6 ∷ []) 0 tt h)
  no_qubits (Form x) f h = refl
  no_qubits (Events e) f h = refl
  no_qubits (Steps a) f h = refl
  no_qubits (Label q xh xl zh zl) f h = refl
  no_qubits (Call c) f h = refl
  no_qubits (Look kind q) f h = refl

  pub no_form : (l : Line) (f : forms.Form → A) → OfTags (0 ∷ 2 ∷ 3 ∷ 4 ∷ 5 ∷ 6 ∷ []) l → as_form l f g ≡ g
  no_form (Qubits n) f h = refl
  no_form (Form x) f h = absurd (miss (0 ∷ 2 ∷ 3 ∷ 4 ∷ 5 ∷ 6 ∷ []) 1 tt h)
  no_form (Events e) f h = refl
  no_form (Steps a) f h = refl
  no_form (Label q xh xl zh zl) f h = refl
  no_form (Call c) f h = refl
  no_form (Look kind q) f h = refl

  pub no_events : (l : Line) (f : ℕ → A) → OfTags (0 ∷ 1 ∷ 3 ∷ 4 ∷ 5 ∷ 6 ∷ []) l → as_events l f g ≡ g
  no_events (Qubits n) f h = refl
  no_events (Form x) f h = refl
  no_events (Events e) f h = absurd (miss (0 ∷ 1 ∷ 3 ∷ 4 ∷ 5 ∷ 6 ∷ []) 2 tt h)
  no_events (Steps a) f h = refl
  no_events (Label q xh xl zh zl) f h = refl
  no_events (Call c) f h = refl
  no_events (Look kind q) f h = refl

  pub no_steps : (l : Line) (f : ℕ → A) → OfTags (0 ∷ 1 ∷ 2 ∷ 4 ∷ 5 ∷ 6 ∷ []) l → as_steps l f g ≡ g
  no_steps (Qubits n) f h = refl
  no_steps (Form x) f h = refl
  no_steps (Events e) f h = refl
  no_steps (Steps a) f h = absurd (miss (0 ∷ 1 ∷ 2 ∷ 4 ∷ 5 ∷ 6 ∷ []) 3 tt h)
  no_steps (Label q xh xl zh zl) f h = refl
  no_steps (Call c) f h = refl
  no_steps (Look kind q) f h = refl

  pub no_label : (l : Line) (f : (q xh xl zh zl : ℕ) → A) → OfTags (0 ∷ 1 ∷ 2 ∷ 3 ∷ 5 ∷ 6 ∷ []) l → as_label l f g ≡ g
  no_label (Qubits n) f h = refl
  no_label (Form x) f h = refl
  no_label (Events e) f h = refl
  no_label (Steps a) f h = refl
  no_label (Label q xh xl zh zl) f h = absurd (miss (0 ∷ 1 ∷ 2 ∷ 3 ∷ 5 ∷ 6 ∷ []) 4 tt h)
  no_label (Call c) f h = refl
  no_label (Look kind q) f h = refl

  pub no_operation : (l : Line) (f : calls.Call → A) (h : Kind → ℕ → A) → OfTags (0 ∷ 1 ∷ 2 ∷ 3 ∷ 4 ∷ []) l → as_operation l f h g ≡ g
  no_operation (Qubits n) f h t = refl
  no_operation (Form x) f h t = refl
  no_operation (Events e) f h t = refl
  no_operation (Steps a) f h t = refl
  no_operation (Label q xh xl zh zl) f h t = refl
  no_operation (Call c) f h t = absurd (miss (0 ∷ 1 ∷ 2 ∷ 3 ∷ 4 ∷ []) 5 tt t)
  no_operation (Look kind q) f h t = absurd (miss (0 ∷ 1 ∷ 2 ∷ 3 ∷ 4 ∷ []) 6 tt t)
