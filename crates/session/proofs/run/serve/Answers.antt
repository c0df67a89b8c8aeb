-- `run::serve` meets its contract. Assumes nothing.
use borrow.Author.Rules.{rules}
use Rattle.session.proofs.Serving.{serve_stop, serve_end}
use Rattle.session.proofs.run.serve.Goals as goal

pub returns-in-On : goal.returns-in-On
returns-in-On c =
    serve_end _ _ c.if-input-out.false _ c.start.ensures _ _ _ (search rules) (search rules) (search rules) _ _ _ _ c.run.auto.out _ _ _ c.in-On.is c.in_ok-t.ensures _ _
    c.last.auto.out c.last.ensures (search rules)

pub returns-in-Stop : goal.returns-in-Stop
returns-in-Stop c =
    serve_stop _ _ c.if-input-out.false _ c.start.ensures _ _ _ (search rules) (search rules) (search rules) _ _ _ _ c.run.auto.out _ _ c.in-Stop.is c.in_ok-t.ensures
