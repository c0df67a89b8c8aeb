-- `frame::gates::quarter` meets its contract. Assumes nothing.
use Rattle.frame.proofs.GateLaws.{Does-quarter}
use Rattle.frame.proofs.gates.quarter.Goals as goal

pub returns : goal.returns
returns c =
    Does-quarter c.args.n c.args.l c.args.s.now _ _ c.args.by c.args.q c.requires.1 c.times.ensures
