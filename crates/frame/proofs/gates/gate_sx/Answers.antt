-- `frame::gates::gate_sx` meets its contract. Assumes nothing.
use Rattle.model.specs.Frame.{h_gate, s_gate, gate}
use Rattle.frame.specs.Places.{applied, after}
use Rattle.frame.proofs.GateLaws.{Does-then, Does-after}
use Rattle.frame.proofs.gates.gate_sx.Goals as goal

pub returns : goal.returns
unfolding gate
returns c =
    Does-after c.args.n c.args.l (after (applied (s_gate c.args.q)) (applied (h_gate c.args.q))) (applied (h_gate c.args.q)) c.args.s.now _ _ _
    (Does-then c.args.n c.args.l (applied (h_gate c.args.q)) (applied (s_gate c.args.q)) c.args.s.now _ _ _ _ c.gate_h.ensures c.gate_s-done.ensures)
    c.gate_h-2.ensures
