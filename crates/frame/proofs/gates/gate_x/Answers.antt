-- `frame::gates::gate_x` meets its contract. Assumes nothing.
use Rattle.frame.proofs.GateLaws.{Does-x}
use Rattle.frame.proofs.gates.gate_x.Goals as goal

pub returns : goal.returns
returns c =
    Does-x c.args.n c.args.l c.args.s.now _ _ c.args.q c.requires.1 c.turn.ensures
