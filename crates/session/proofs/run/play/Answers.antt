use Rattle.session.proofs.Playing.{played_end, Played-on, played_stop}
use Rattle.session.proofs.run.play.Goals as goal

pub returns-in-Stop : goal.returns-in-Stop
returns-in-Stop c = played_stop _ _ _ _ _ _ _ _ _ _ _ _ _ c.loop-b.invariant c.loop-b-test.true _ _ _ _ c.hear.auto.out _ c.in-Stop.ensures

pub loop-b-preserved : goal.loop-b-preserved
loop-b-preserved c = Played-on _ _ _ _ _ _ _ _ _ _ _ _ _ c.loop-b.invariant c.loop-b-test.true _ _ _ _ c.hear.auto.out _ _ c.in-On.ensures

pub returns : goal.returns
returns c = played_end _ _ _ _ _ _ _ _ _ _ _ _ _ c.loop-b.invariant c.loop-b-test.false
