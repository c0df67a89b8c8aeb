-- `Store::measure` meets its contract.
use Rattle.std.proofs.Common.{rules}
use mathlib.Core.Path.{refl}
use Rattle.model.specs.Calls.{call_measure, reply_of}
use Rattle.typed.proofs.Laws.{laws, is_no_room, number_first, is_next}
use Rattle.typed.proofs.stores.Store.measure.Goals as goal

pub numbered-requires : goal.numbered-requires
numbered-requires c = search (rules, laws)

pub invariant_of-self : goal.invariant_of-self
invariant_of-self c = search (rules, laws)

pub returns-clause-answer : goal.returns-clause-answer
returns-clause-answer c = search (rules, laws)

pub returns-clause-no_such_qubit : goal.returns-clause-no_such_qubit
returns-clause-no_such_qubit c = search (rules, laws)

pub returns-clause-full : goal.returns-clause-full
returns-clause-full c =
    is_no_room (call_measure c.args.q) _ _ _ _ c.numbered.result c.args.q 1 c.measure.ensures tt (number_first c.measure.result) c.numbered.ensures.number refl refl

pub returns-clause-done : goal.returns-clause-done
returns-clause-done c = search (rules, laws)

pub returns-clause-refused : goal.returns-clause-refused
returns-clause-refused c = search (rules, laws)

pub returns-clause-id : goal.returns-clause-id
unfolding reply_of
returns-clause-id c = is_next (call_measure c.args.q) _ _ _ c.numbered.result c.measure.ensures (λ m. refl) c.numbered.ensures.value
