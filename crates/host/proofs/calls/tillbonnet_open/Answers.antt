-- `host::calls::tillbonnet_open` meets its contract: by the form. Assumes nothing.
use Rattle.host.specs.Named.{form_named}
use Rattle.store.specs.Promises.{told_open}
use Rattle.host.proofs.Naming.{meant, unnamed}
use mathlib.Core.Path.{refl, sym, ap, ◌∙◌}
use Rattle.host.proofs.calls.tillbonnet_open.Goals as goal

pub returns-in-Some : goal.returns-in-Some
unfolding form_named
returns-in-Some c = meant _ _ _ _ (sym (ap form_named c.in-Some.is) ∙ c.form_named.ensures) (record { reply = told_open c.«open».result; opens = c.«open».ensures; number_is = c.open_number_of.ensures })

pub returns-in-None : goal.returns-in-None
unfolding form_named
returns-in-None c = unnamed _ _ _ (sym (ap form_named c.in-None.is) ∙ c.form_named.ensures) (refl, refl)
