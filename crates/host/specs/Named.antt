-- The code's enums as what is meant. Assumes nothing.
use Rattle.model.specs.Frame as model
use Rattle.model.specs.Events as events
use Rattle.frame.specs.Axes.{kind_of}
use Rattle.gating.specs.Gates.{gate_of}
use Rattle.history.specs.Sizes.{form_of}
use Rattle.host.specs.Numbers.{Meant, known, unknown}
use Rattle.std.specs.Prelude.{Option, Some, None}
use Rattle.frame.specs.declared.axes.Kind.{Kind}
use Rattle.gating.specs.declared.gates.Gate.{Gate}
use Rattle.history.specs.declared.forms.Form.{Form}

unfoldable pub gate_named : Option Gate → Meant model.Gate
gate_named (Some g) = known (gate_of g)
gate_named None = unknown

unfoldable pub kind_named : Option Kind → Meant model.Kind
kind_named (Some d) = known (kind_of d)
kind_named None = unknown

unfoldable pub form_named : Option Form → Meant events.Form
form_named (Some f) = known (form_of f)
form_named None = unknown
