-- `frame::gates::turn_y` meets its contract. Assumes nothing.
use Rattle.model.specs.Frame.{Ops, kind_x, kind_y, turn_z, turn}
use Rattle.frame.specs.Places.{after}
use Rattle.frame.proofs.GateLaws.{Does-then, Does-failed}
use Rattle.frame.proofs.gates.turn_y.Goals as goal

pub returns : goal.returns
unfolding turn_z turn
returns c =
    Does-then c.args.n c.args.l (after (λ (A : Type 0) (o : Ops A). turn o kind_x c.args.k c.args.q) (λ (A : Type 0) (o : Ops A). turn_z o 6 c.args.q)) (λ (A : Type 0) (o : Ops A). turn_z o 2 c.args.q) c.args.s.now _ _ _ _
    (Does-then c.args.n c.args.l (λ (A : Type 0) (o : Ops A). turn_z o 6 c.args.q) (λ (A : Type 0) (o : Ops A). turn o kind_x c.args.k c.args.q) c.args.s.now _ _ _ _ c.in_ok-turn_z.ensures c.in_ok-turn_x.ensures)
    c.turn_z-2.ensures

pub returns-in_err-turn_z : goal.returns-in_err-turn_z
returns-in_err-turn_z c =
    Does-failed c.args.n c.args.l (λ (A : Type 0) (o : Ops A). turn_z o 6 c.args.q) (λ (A : Type 0) (o : Ops A). turn o kind_y c.args.k c.args.q) c.args.s.now _ _ _ c.in_err-turn_z.ensures

pub returns-in_err-turn_x : goal.returns-in_err-turn_x
returns-in_err-turn_x c =
    Does-failed c.args.n c.args.l (after (λ (A : Type 0) (o : Ops A). turn o kind_x c.args.k c.args.q) (λ (A : Type 0) (o : Ops A). turn_z o 6 c.args.q)) (λ (A : Type 0) (o : Ops A). turn o kind_y c.args.k c.args.q) c.args.s.now _ _ _
    (Does-then c.args.n c.args.l (λ (A : Type 0) (o : Ops A). turn_z o 6 c.args.q) (λ (A : Type 0) (o : Ops A). turn o kind_x c.args.k c.args.q) c.args.s.now _ _ _ _ c.in_ok-turn_z.ensures c.in_err-turn_x.ensures)
