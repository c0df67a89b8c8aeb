-- `gating::gates::turned` meets its contract: each arm's function does the turn of the kind found. Assumes nothing.
use Rattle.model.specs.Frame.{turn}
use Rattle.frame.specs.Axes.{kind_of}
use Rattle.gating.proofs.gates.turned.Goals as goal

pub returns-in-X : goal.returns-in-X
unfolding kind_of turn
returns-in-X c = rw c.in-X.is c.turn_x.ensures

pub returns-in-Y : goal.returns-in-Y
unfolding kind_of turn
returns-in-Y c = rw c.in-Y.is c.turn_y.ensures

pub returns-in-Z : goal.returns-in-Z
unfolding kind_of turn
returns-in-Z c = rw c.in-Z.is c.turn_z.ensures

pub returns-in-P : goal.returns-in-P
unfolding kind_of turn
returns-in-P c = rw c.in-P.is c.turn_z-in-P.ensures
