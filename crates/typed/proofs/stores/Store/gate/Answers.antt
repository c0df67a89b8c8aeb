-- `Store::gate` meets its contract.
use Rattle.std.proofs.Common.{rules}
use Rattle.model.specs.Calls.{call_gate}
use Rattle.gating.specs.Gates.{gate_of}
use Rattle.typed.proofs.Laws.{laws, is_no_qubit, is_same_qubit, number_done}
use Rattle.typed.proofs.stores.Store.gate.Goals as goal

pub on_store-requires : goal.on_store-requires
on_store-requires c = search (rules, laws)

pub invariant_of-self : goal.invariant_of-self
invariant_of-self c = search (rules, laws)

pub returns-clause-answer : goal.returns-clause-answer
returns-clause-answer c = search (rules, laws)

pub returns-clause-done : goal.returns-clause-done
returns-clause-done c = search (rules, laws)

pub returns-clause-refused : goal.returns-clause-refused
returns-clause-refused c = search (rules, laws)

pub returns-clause-no_such_qubit : goal.returns-clause-no_such_qubit
returns-clause-no_such_qubit c = is_no_qubit (call_gate (gate_of c.args.gate)) _ _ _ _ c.on_store.result c.gate.ensures tt (number_done c.gate.result) c.on_store.ensures.number

pub returns-clause-same_qubit : goal.returns-clause-same_qubit
returns-clause-same_qubit c = is_same_qubit (call_gate (gate_of c.args.gate)) _ _ _ _ c.on_store.result c.gate.ensures tt (number_done c.gate.result) c.on_store.ensures.number
