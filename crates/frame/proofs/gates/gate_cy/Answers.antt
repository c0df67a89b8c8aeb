-- `frame::gates::gate_cy` meets its contract. Assumes nothing.
use Rattle.model.specs.Frame.{cnot_gate, cy_gate, s_gate, sdg_gate, gate}
use Rattle.frame.specs.Places.{applied, after}
use Rattle.frame.proofs.GateLaws.{Does-then, Does-failed}
use Rattle.frame.proofs.gates.gate_cy.Goals as goal

pub returns : goal.returns
unfolding gate
returns c =
    Does-then c.args.n c.args.l (after (applied (cnot_gate c.args.c c.args.t)) (applied (sdg_gate c.args.t))) (applied (s_gate c.args.t)) c.args.s.now _ _ _ _
    (Does-then c.args.n c.args.l (applied (sdg_gate c.args.t)) (applied (cnot_gate c.args.c c.args.t)) c.args.s.now _ _ _ _ c.in_ok-gate_sdg.ensures c.in_ok-gate_cnot.ensures)
    c.gate_s.ensures

pub returns-in_err-gate_sdg : goal.returns-in_err-gate_sdg
returns-in_err-gate_sdg c =
    Does-failed c.args.n c.args.l (applied (sdg_gate c.args.t)) (applied (cy_gate c.args.c c.args.t)) c.args.s.now _ _ _ c.in_err-gate_sdg.ensures

pub returns-in_err-gate_cnot : goal.returns-in_err-gate_cnot
returns-in_err-gate_cnot c =
    Does-failed c.args.n c.args.l (after (applied (cnot_gate c.args.c c.args.t)) (applied (sdg_gate c.args.t))) (applied (cy_gate c.args.c c.args.t)) c.args.s.now _ _ _
    (Does-then c.args.n c.args.l (applied (sdg_gate c.args.t)) (applied (cnot_gate c.args.c c.args.t)) c.args.s.now _ _ _ _ c.in_ok-gate_sdg.ensures c.in_err-gate_cnot.ensures)
