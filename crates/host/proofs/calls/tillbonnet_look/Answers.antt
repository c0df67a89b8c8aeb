-- `host::calls::tillbonnet_look` meets its contract: by the room and the kind. Assumes nothing.
use Rattle.host.specs.Named.{kind_named}
use Rattle.store.specs.Promises.{told_look}
use Rattle.host.proofs.Naming.{roomy}
use Rattle.host.proofs.Naming.{meant, unnamed}
use mathlib.Core.Path.{refl, sym, ap, ◌∙◌}
use Rattle.host.proofs.calls.tillbonnet_look.Goals as goal

pub returns-in-Some : goal.returns-in-Some
unfolding kind_named
returns-in-Some c = roomy _ _ _ _ c.if-says-lt4.false (meant _ _ _ _ (sym (ap kind_named c.in-Some.is) ∙ c.kind_named.ensures) (record { reply = told_look c.look.result; answers = c.look.ensures; number_is = c.sight_into.ensures.value; words_are = c.sight_into.ensures.says_after }))

pub returns-in-None : goal.returns-in-None
unfolding kind_named
returns-in-None c = roomy _ _ _ _ c.if-says-lt4.false (unnamed _ _ _ (sym (ap kind_named c.in-None.is) ∙ c.kind_named.ensures) (refl, refl))
