-- `Store::read` meets its contract.
use mathlib.Core.Path.{refl, ◌∙◌}
use Rattle.model.specs.Calls.{call_read}
use Rattle.typed.proofs.Laws.{narrow, answers, number_read, said_no_event, read_says, read_is}
use Rattle.typed.proofs.stores.Store.read.Goals as goal

pub on_store-requires : goal.on_store-requires
on_store-requires c = narrow (call_read c.args.id.0) _ _ c.read.ensures c.args.self.now.holds tt c.read.result (number_read c.read.result)

pub returns-clause-answer : goal.returns-clause-answer
returns-clause-answer c = answers (call_read c.args.id.0) _ _ c.read.ensures c.on_store.result (c.on_store.ensures.number ∙ number_read c.read.result)

pub returns-clause-no_such_event : goal.returns-clause-no_such_event
returns-clause-no_such_event c = said_no_event (call_read c.args.id.0) _ _ c.read.ensures c.on_store.result (c.on_store.ensures.number ∙ number_read c.read.result) tt refl refl

pub returns-clause-rotation : goal.returns-clause-rotation
returns-clause-rotation c =
    read_is c.args.id.0 _ _ c.read.ensures c.on_store.result (c.on_store.ensures.number ∙ number_read c.read.result) (read_says c.read.result c.on_store.result c.on_store.ensures.value)
