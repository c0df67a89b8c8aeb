-- none of the qubits before i stands again behind it
use Rattle.store.proofs.QubitLaws.{NoneAgain}
use Rattle.store.proofs.qubits.check_qubits.Given as goal

abbrev pub invariant-loop-i : goal.invariant-loop-i
invariant-loop-i l = NoneAgain l.qubits l.i
