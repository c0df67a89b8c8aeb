-- `host::calls::tillbonnet_record` meets its contract: by the kind. Assumes nothing.
use Rattle.host.specs.Named.{kind_named}
use Rattle.store.specs.Promises.{told_first}
use Rattle.host.proofs.Naming.{meant, unnamed}
use mathlib.Core.Path.{refl, sym, ap, ◌∙◌}
use Rattle.host.proofs.calls.tillbonnet_record.Goals as goal

pub returns-in-Some : goal.returns-in-Some
unfolding kind_named
returns-in-Some c = meant _ _ _ _ (sym (ap kind_named c.in-Some.is) ∙ c.kind_named.ensures) (record { reply = told_first c.«record».result; meets = c.«record».ensures; number_is = c.first_of.ensures.value; first_is = c.first_of.ensures.first_after })

pub returns-in-None : goal.returns-in-None
unfolding kind_named
returns-in-None c = unnamed _ _ _ (sym (ap kind_named c.in-None.is) ∙ c.kind_named.ensures) (refl, refl, refl)
