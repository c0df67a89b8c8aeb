-- `Store::turn` meets its contract.
use mathlib.Core.Path.{refl, ◌∙◌}
use Rattle.model.specs.Calls.{call_turn}
use Rattle.frame.specs.Axes.{kind_of}
use Rattle.typed.specs.Turns.{eighths_of}
use Rattle.typed.proofs.Laws.{narrow, number_done, answers, kept, done, refusing, no_such, no_event, turn_at, eighths_known}
use Rattle.typed.proofs.stores.Store.turn.Goals as goal

pub on_store-requires : goal.on_store-requires
on_store-requires c = narrow (call_turn (kind_of c.args.kind) (eighths_of c.args.turn) c.args.q) _ _ (turn_at c.eighths.ensures c.turn.ensures).answers c.args.self.now.holds (eighths_known c.args.turn) c.turn.result (number_done c.turn.result)

pub invariant_of-self : goal.invariant_of-self
invariant_of-self c = record { holds = kept (call_turn (kind_of c.args.kind) (eighths_of c.args.turn) c.args.q) _ _ _ (turn_at c.eighths.ensures c.turn.ensures) c.args.self.now.holds }

pub returns-clause-answer : goal.returns-clause-answer
returns-clause-answer c = answers (call_turn (kind_of c.args.kind) (eighths_of c.args.turn) c.args.q) _ _ (turn_at c.eighths.ensures c.turn.ensures).answers c.on_store.result (c.on_store.ensures.number ∙ number_done c.turn.result)

pub returns-clause-no_such_qubit : goal.returns-clause-no_such_qubit
returns-clause-no_such_qubit c =
    no_such (call_turn (kind_of c.args.kind) (eighths_of c.args.turn) c.args.q) _ c.on_store.result (eighths_known c.args.turn)
    (answers (call_turn (kind_of c.args.kind) (eighths_of c.args.turn) c.args.q) _ _ (turn_at c.eighths.ensures c.turn.ensures).answers c.on_store.result (c.on_store.ensures.number ∙ number_done c.turn.result)) c.args.q refl

pub returns-clause-done : goal.returns-clause-done
returns-clause-done c = done (call_turn (kind_of c.args.kind) (eighths_of c.args.turn) c.args.q) _ _ _ (turn_at c.eighths.ensures c.turn.ensures) c.on_store.result (c.on_store.ensures.number ∙ number_done c.turn.result)

pub returns-clause-refused : goal.returns-clause-refused
returns-clause-refused c = refusing (call_turn (kind_of c.args.kind) (eighths_of c.args.turn) c.args.q) _ _ _ (turn_at c.eighths.ensures c.turn.ensures) c.args.self.now.holds (eighths_known c.args.turn) c.on_store.result (c.on_store.ensures.number ∙ number_done c.turn.result)
