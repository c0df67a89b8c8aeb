-- `frame::gates::turn_x` meets its contract. Assumes nothing.
use Rattle.model.specs.Frame.{Ops, h_gate, gate, turn_z, turn}
use Rattle.frame.specs.Places.{applied, after}
use Rattle.frame.proofs.GateLaws.{Does-then, Does-after}
use Rattle.frame.proofs.gates.turn_x.Goals as goal

pub returns : goal.returns
unfolding gate turn
returns c =
    Does-after c.args.n c.args.l (after (λ (A : Type 0) (o : Ops A). turn_z o c.args.k c.args.q) (applied (h_gate c.args.q))) (applied (h_gate c.args.q)) c.args.s.now _ _ _
    (Does-then c.args.n c.args.l (applied (h_gate c.args.q)) (λ (A : Type 0) (o : Ops A). turn_z o c.args.k c.args.q) c.args.s.now _ _ _ _ c.gate_h.ensures c.turn_z-done.ensures)
    c.gate_h-2.ensures
