-- `frame::gates::gate_y` meets its contract. Assumes nothing.
use Rattle.model.specs.Frame.{x_gate, y_gate, z_gate, gate}
use Rattle.frame.specs.Places.{applied}
use Rattle.frame.proofs.GateLaws.{Does-then, Does-failed}
use Rattle.frame.proofs.gates.gate_y.Goals as goal

pub returns : goal.returns
unfolding gate
returns c =
    Does-then c.args.n c.args.l (applied (x_gate c.args.q)) (applied (z_gate c.args.q)) c.args.s.now _ _ _ _ c.in_ok-gate_x.ensures c.gate_z.ensures

pub returns-in_err-gate_x : goal.returns-in_err-gate_x
returns-in_err-gate_x c =
    Does-failed c.args.n c.args.l (applied (x_gate c.args.q)) (applied (y_gate c.args.q)) c.args.s.now _ _ _ c.in_err-gate_x.ensures
