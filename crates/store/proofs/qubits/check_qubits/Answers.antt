-- `store::qubits::check_qubits` meets its contract. Assumes nothing.
use Rattle.std.proofs.Common.{rules}
use Rattle.store.proofs.QubitLaws.{beyond, same, apart, none_more}
use Rattle.store.proofs.qubits.check_qubits.Goals as goal

pub returns-then-any : goal.returns-then-any
returns-then-any c = beyond c.args.n c.args.qubits.now (search rules)

pub returns-then-contains : goal.returns-then-contains
returns-then-contains c = same c.args.n c.args.qubits.now (search rules) c.loop-i.i c.loop-i-test.true c.if-contains.ensures.value

pub loop-i-preserved : goal.loop-i-preserved
loop-i-preserved c = none_more c.args.qubits.now c.loop-i.i c.loop-i.invariant c.if-contains.ensures.value

pub returns : goal.returns
returns c = apart c.args.n c.args.qubits.now (search rules) (search rules)
