-- `host::calls::tillbonnet_turn` meets its contract: by the kind. Assumes nothing.
use Rattle.host.specs.Named.{kind_named}
use Rattle.store.specs.Promises.{told_done}
use Rattle.host.proofs.Naming.{meant, unnamed}
use mathlib.Core.Path.{refl, sym, ap, ◌∙◌}
use Rattle.host.proofs.calls.tillbonnet_turn.Goals as goal

pub returns-in-Some : goal.returns-in-Some
unfolding kind_named
returns-in-Some c = meant _ _ _ _ (sym (ap kind_named c.in-Some.is) ∙ c.kind_named.ensures) (record { reply = told_done c.turn.result; meets = c.turn.ensures; number_is = c.number_of.ensures })

pub returns-in-None : goal.returns-in-None
unfolding kind_named
returns-in-None c = unnamed _ _ _ (sym (ap kind_named c.in-None.is) ∙ c.kind_named.ensures) (refl, refl)
