-- `host::calls::tillbonnet_gate` meets its contract: by the gate. Assumes nothing.
use Rattle.host.specs.Named.{gate_named}
use Rattle.store.specs.Promises.{told_done}
use Rattle.host.proofs.Naming.{meant, unnamed}
use mathlib.Core.Path.{refl, sym, ap, ◌∙◌}
use Rattle.host.proofs.calls.tillbonnet_gate.Goals as goal

pub returns-in-Some : goal.returns-in-Some
unfolding gate_named
returns-in-Some c = meant _ _ _ _ (sym (ap gate_named c.in-Some.is) ∙ c.gate_named.ensures) (record { reply = told_done c.gate.result; meets = c.gate.ensures; number_is = c.number_of.ensures })

pub returns-in-None : goal.returns-in-None
unfolding gate_named
returns-in-None c = unnamed _ _ _ (sym (ap gate_named c.in-None.is) ∙ c.gate_named.ensures) (refl, refl)
