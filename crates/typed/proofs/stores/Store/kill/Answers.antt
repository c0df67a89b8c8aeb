-- `Store::kill` meets its contract.
use mathlib.Core.Path.{refl, ◌∙◌}
use Rattle.model.specs.Calls.{call_kill}
use Rattle.typed.proofs.Laws.{narrow, number_done, answers, kept, done, refusing, no_such, no_event}
use Rattle.typed.proofs.stores.Store.kill.Goals as goal

pub on_store-requires : goal.on_store-requires
on_store-requires c = narrow (call_kill c.args.id.0) _ _ c.kill.ensures.answers c.args.self.now.holds tt c.kill.result (number_done c.kill.result)

pub invariant_of-self : goal.invariant_of-self
invariant_of-self c = record { holds = kept (call_kill c.args.id.0) _ _ _ c.kill.ensures c.args.self.now.holds }

pub returns-clause-answer : goal.returns-clause-answer
returns-clause-answer c = answers (call_kill c.args.id.0) _ _ c.kill.ensures.answers c.on_store.result (c.on_store.ensures.number ∙ number_done c.kill.result)

pub returns-clause-no_such_event : goal.returns-clause-no_such_event
returns-clause-no_such_event c =
    no_event (call_kill c.args.id.0) _ c.on_store.result tt
    (answers (call_kill c.args.id.0) _ _ c.kill.ensures.answers c.on_store.result (c.on_store.ensures.number ∙ number_done c.kill.result)) refl refl

pub returns-clause-done : goal.returns-clause-done
returns-clause-done c = done (call_kill c.args.id.0) _ _ _ c.kill.ensures c.on_store.result (c.on_store.ensures.number ∙ number_done c.kill.result)

pub returns-clause-refused : goal.returns-clause-refused
returns-clause-refused c = refusing (call_kill c.args.id.0) _ _ _ c.kill.ensures c.args.self.now.holds tt c.on_store.result (c.on_store.ensures.number ∙ number_done c.kill.result)
