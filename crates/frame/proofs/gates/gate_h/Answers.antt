-- `frame::gates::gate_h` meets its contract. Assumes nothing.
use Rattle.frame.proofs.GateLaws.{Does-h}
use Rattle.frame.proofs.gates.gate_h.Goals as goal

pub returns : goal.returns
returns c =
    Does-h c.args.n c.args.l c.args.s.now _ _ c.args.q c.requires.1 c.swap.ensures
