-- `frame::gates::gate_swap` meets its contract. Assumes nothing.
use Prim.Native.Nat.{◌+◌, ◌*◌}
use Rattle.model.specs.Frame.{Ops}
use Rattle.frame.specs.Places.{swap_row}
use Rattle.frame.proofs.GateLaws.{Does-swap, Moves-then}
use Rattle.frame.proofs.gates.gate_swap.Goals as goal

pub returns : goal.returns
returns c =
    Does-swap c.args.n c.args.l c.args.s.now _ _ c.args.a c.args.b c.requires.1 c.requires.2
    (Moves-then (2 * c.args.n) c.args.l (λ (A : Type 0) (o : Ops A). swap_row (2 * c.args.a) (2 * c.args.b)) (λ (A : Type 0) (o : Ops A). swap_row (2 * c.args.a + 1) (2 * c.args.b + 1)) c.args.s.now _ _ _ _ c.swap.ensures c.swap-2.ensures)
