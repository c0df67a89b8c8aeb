-- `frame::gates::gate_z` meets its contract. Assumes nothing.
use Rattle.frame.proofs.GateLaws.{Does-z}
use Rattle.frame.proofs.gates.gate_z.Goals as goal

pub returns : goal.returns
returns c =
    Does-z c.args.n c.args.l c.args.s.now _ _ c.args.q c.requires.1 c.turn.ensures
