-- `frame::gates::turn_z` meets its contract. Assumes nothing.
use Rattle.model.specs.Frame.{gate, turn_z}
use Rattle.frame.proofs.GateLaws.{Does-turn, Does-no_turn}
use native.Mathlib.Omega.{arith}
use Rattle.frame.proofs.gates.turn_z.Goals as goal

pub returns-in-2 : goal.returns-in-2
unfolding gate turn_z
returns-in-2 c =
    Does-turn c.args.n c.args.l c.args.k 2 c.args.q c.args.s.now _ _ c.in-2.is c.gate_s.ensures

pub returns-in-4 : goal.returns-in-4
unfolding gate turn_z
returns-in-4 c =
    Does-turn c.args.n c.args.l c.args.k 4 c.args.q c.args.s.now _ _ c.in-4.is c.gate_z.ensures

pub returns-in-6 : goal.returns-in-6
unfolding gate turn_z
returns-in-6 c =
    Does-turn c.args.n c.args.l c.args.k 6 c.args.q c.args.s.now _ _ c.in-6.is c.gate_sdg.ensures

pub returns-in_default : goal.returns-in_default
returns-in_default c =
    Does-no_turn c.args.n c.args.l c.args.k c.args.q c.args.s.now (λ e. omega arith) (λ e. omega arith) (λ e. omega arith)
