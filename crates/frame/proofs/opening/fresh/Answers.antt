-- `frame::opening::fresh` meets its contract. Assumes nothing.
use Rattle.frame.proofs.FreshLaws.{fresh-Held}
use mathlib.Core.Path.{◌∙◌}
use native.Mathlib.Omega.{arith}
use Rattle.frame.proofs.opening.fresh.Goals as goal

pub returns : goal.returns
returns c =
    let x = c.begin in
    let e = x.ensures.0 in
    fresh-Held c.args.n c.args.l c.args.tags.now x.new.s _ (e ∙ c.requires.0) c.requires.1 x.ensures.1 _ (omega (arith, e)) c.copy.ensures
