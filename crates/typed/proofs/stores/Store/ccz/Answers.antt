-- `Store::ccz` meets its contract.
use Rattle.std.proofs.Common.{rules}
use mathlib.Core.Path.{refl}
use Rattle.model.specs.Calls.{call_ccz, reply_of}
use Rattle.typed.proofs.Laws.{laws, is_no_qubit, is_same_qubit, is_full, number_first, is_next}
use Rattle.typed.proofs.stores.Store.ccz.Goals as goal

pub numbered-requires : goal.numbered-requires
numbered-requires c = search (rules, laws)

pub invariant_of-self : goal.invariant_of-self
invariant_of-self c = search (rules, laws)

pub returns-clause-answer : goal.returns-clause-answer
returns-clause-answer c = search (rules, laws)

pub returns-clause-done : goal.returns-clause-done
returns-clause-done c = search (rules, laws)

pub returns-clause-refused : goal.returns-clause-refused
returns-clause-refused c = search (rules, laws)

pub returns-clause-no_such_qubit : goal.returns-clause-no_such_qubit
returns-clause-no_such_qubit c = is_no_qubit (call_ccz c.args.a c.args.b c.args.t) _ _ _ _ c.numbered.result c.ccz.ensures tt (number_first c.ccz.result) c.numbered.ensures.number

pub returns-clause-same_qubit : goal.returns-clause-same_qubit
returns-clause-same_qubit c = is_same_qubit (call_ccz c.args.a c.args.b c.args.t) _ _ _ _ c.numbered.result c.ccz.ensures tt (number_first c.ccz.result) c.numbered.ensures.number

pub returns-clause-full : goal.returns-clause-full
returns-clause-full c = is_full (call_ccz c.args.a c.args.b c.args.t) _ _ _ _ c.numbered.result c.ccz.ensures tt (number_first c.ccz.result) c.numbered.ensures.number

pub returns-clause-id : goal.returns-clause-id
unfolding reply_of
returns-clause-id c = is_next (call_ccz c.args.a c.args.b c.args.t) _ _ _ c.numbered.result c.ccz.ensures (λ m. refl) c.numbered.ensures.value
