-- `lists::scalar::retain` meets its contract: the set says whether the event is live, or that there is none. Assumes nothing.
use mathlib.Core.Path.{ap, ◌∙◌}
use Rattle.std.specs.Prelude.{Ok, is_err}
use Rattle.lists.proofs.ScalarLaws.{told, told_none, Retained-bad, Retained-live, Retained-dead}
use Rattle.lists.proofs.scalar.retain.Goals as goal

pub returns-in_err-has : goal.returns-in_err-has
returns-in_err-has c =
    let a = c.args in
    Retained-bad a.h.now a.base a.k a.live.at a.live.events a.id
    (told_none a.h.now a.live.at a.live.events a.id c.has.result c.has.ensures.unknown c.has.ensures.known (ap is_err c.in_err-has.was))
    c.from_residual.result c.from_residual.ensures.0

pub returns-then-branch : goal.returns-then-branch
returns-then-branch c =
    let a = c.args in
    let t = told a.h.now a.live.at a.live.events a.id c.has.result c.has.ensures.unknown c.has.ensures.known _ (c.in_ok-has.was ∙ ap Ok c.if-branch.true) in
    Retained-live a.h.now a.base a.k a.live.at a.live.events a.id t.0 c.requires.0 t.1

pub returns : goal.returns
returns c =
    let a = c.args in
    let t = told a.h.now a.live.at a.live.events a.id c.has.result c.has.ensures.unknown c.has.ensures.known _ (c.in_ok-has.was ∙ ap Ok c.if-branch.false) in
    Retained-dead a.h.now a.base a.k a.live.at a.live.events a.id t.0 t.1
