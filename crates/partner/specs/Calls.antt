-- The code's calls are `model`'s. Assumes nothing.
use Rattle.model.specs.Calls as model
use Rattle.frame.specs.Axes.{kind_of}
use Rattle.gating.specs.Gates.{gate_of}
use Rattle.partner.specs.declared.calls.Call.{Call}
use Rattle.partner.specs.declared.calls.Call.TheVariants.{Gate, Turn, Record, Measure, Reset, Ccx, Ccz, Kill, Clear}

unfoldable pub call_in : Call → model.Call
call_in (Gate g) = model.call_gate (gate_of g)
call_in (Turn kind k q) = model.call_turn (kind_of kind) k q
call_in (Record kind q tag) = model.call_record (kind_of kind) q tag
call_in (Measure q) = model.call_measure q
call_in (Reset q) = model.call_reset q
call_in (Ccx a b t) = model.call_ccx a b t
call_in (Ccz a b t) = model.call_ccz a b t
call_in (Kill id) = model.call_kill id
call_in Clear = model.call_clear
