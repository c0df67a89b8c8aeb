-- `Store::look` meets its contract.
use mathlib.Core.Path.{refl, ◌∙◌}
use Rattle.model.specs.Calls.{call_look}
use Rattle.frame.specs.Axes.{kind_of}
use Rattle.typed.proofs.Laws.{narrow, answers, number_look, said_no_such, look_says, look_is, look_exactly, look_enough}
use Rattle.typed.proofs.stores.Store.look.Goals as goal

pub seen-requires : goal.seen-requires
seen-requires c = narrow (call_look (kind_of c.args.kind) c.args.q) _ _ c.look.ensures c.args.self.now.holds tt c.look.result (number_look c.look.result)

pub returns-clause-answer : goal.returns-clause-answer
returns-clause-answer c = answers (call_look (kind_of c.args.kind) c.args.q) _ _ c.look.ensures c.seen.result (c.seen.ensures.number ∙ number_look c.look.result)

pub returns-clause-no_such_qubit : goal.returns-clause-no_such_qubit
returns-clause-no_such_qubit c = said_no_such (call_look (kind_of c.args.kind) c.args.q) _ _ c.look.ensures c.seen.result (c.seen.ensures.number ∙ number_look c.look.result) c.args.q tt refl

pub returns-clause-look : goal.returns-clause-look
returns-clause-look c = look_is (kind_of c.args.kind) c.args.q _ _ c.look.ensures c.seen.result (c.seen.ensures.number ∙ number_look c.look.result) (look_says c.look.result c.seen.result c.seen.ensures.value)

pub returns-clause-exactly : goal.returns-clause-exactly
returns-clause-exactly c = look_exactly (kind_of c.args.kind) c.args.q _ _ c.look.ensures c.seen.result (c.seen.ensures.number ∙ number_look c.look.result) (look_says c.look.result c.seen.result c.seen.ensures.value)

pub returns-clause-enough : goal.returns-clause-enough
returns-clause-enough c = look_enough (kind_of c.args.kind) c.args.q _ _ c.look.ensures c.seen.result (c.seen.ensures.number ∙ number_look c.look.result) (look_says c.look.result c.seen.result c.seen.ensures.value)
