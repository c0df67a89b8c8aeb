-- `lists::scalar::drop_dead` meets its contract: of the first `i` entries the live ones stand in the first `k` places. Assumes nothing.
use mathlib.Core.Path.{refl, ap}
use Rattle.std.specs.Prelude.{is_err}
use Rattle.lists.proofs.ScalarLaws.{Dropping-none, Dropping-more, Dropped-bad}
use Rattle.lists.proofs.scalar.drop_dead.Goals as goal

pub loop-i-init : goal.loop-i-init
loop-i-init c =
    let a = c.args in
    Dropping-none a.h.now a.base a.len a.live.at a.live.events

pub loop-i-preserved : goal.loop-i-preserved
loop-i-preserved c =
    let a = c.args in
    Dropping-more a.h.now a.base a.len a.live.at a.live.events c.loop-i.h c.loop-i.i c.loop-i.k c.retain.new.h _ c.retain.result
    c.requires.1 c.loop-i-test.true c.loop-i.invariant refl c.retain.ensures _ c.in_ok-k.was

pub returns-in_err-k : goal.returns-in_err-k
returns-in_err-k c =
    let a = c.args in
    Dropped-bad a.h.now a.base a.len a.live.at a.live.events c.loop-i.h c.loop-i.i c.loop-i.k c.retain.new.h _ c.retain.result
    c.requires.1 c.loop-i-test.true c.loop-i.invariant refl c.retain.ensures (ap is_err c.in_err-k.was) c.from_residual.result c.from_residual.ensures.0
