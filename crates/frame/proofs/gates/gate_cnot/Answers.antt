-- `frame::gates::gate_cnot` meets its contract. Assumes nothing.
use Prim.Native.Nat.{◌+◌, ◌*◌}
use Rattle.model.specs.Frame.{Ops, cnot_gate}
use Rattle.frame.specs.Places.{times_row, applied}
use Rattle.frame.proofs.GateLaws.{Does-cnot, Moves-then, Moves-failed}
use Rattle.frame.proofs.gates.gate_cnot.Goals as goal

pub returns : goal.returns
returns c =
    Does-cnot c.args.n c.args.l c.args.s.now _ _ c.args.c c.args.t c.requires.1 c.requires.2
    (Moves-then (2 * c.args.n) c.args.l (λ (A : Type 0) (o : Ops A). times_row o 0 (2 * c.args.c) (2 * c.args.t)) (λ (A : Type 0) (o : Ops A). times_row o 0 (2 * c.args.t + 1) (2 * c.args.c + 1)) c.args.s.now _ _ _ _ c.in_ok-times.ensures c.times-2.ensures)

pub returns-in_err-times : goal.returns-in_err-times
returns-in_err-times c =
    Moves-failed c.args.n c.args.l (λ (A : Type 0) (o : Ops A). times_row o 0 (2 * c.args.c) (2 * c.args.t)) (applied (cnot_gate c.args.c c.args.t)) c.args.s.now _ _ _ c.in_err-times.ensures
