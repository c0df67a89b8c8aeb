-- `gating::calls::check_turn` meets its contract: the qubit's number where the turn is known, else 8. Assumes nothing.
use Rattle.gating.proofs.GatingLaws.{turn_qubit, turn_none, even_turn, large_turn, odd_turn}
use Rattle.gating.proofs.calls.check_turn.Goals as goal
use Rattle.gating.proofs.calls.check_turn.Goals.{then-k-gt-LARGEST_TURN-via-then-k-gt-LARGEST_TURN, then-k-gt-LARGEST_TURN-via-else-k-gt-LARGEST_TURN+then-k-eq1}

pub returns-then-k-gt-LARGEST_TURN : goal.returns-then-k-gt-LARGEST_TURN
returns-then-k-gt-LARGEST_TURN c =
    let a = c.args in
    elim c.then-k-gt-LARGEST_TURN.branch [
      | then-k-gt-LARGEST_TURN-via-then-k-gt-LARGEST_TURN w ↦ turn_none a.n a.k a.q (large_turn a.k w.if-k-gt-LARGEST_TURN.true)
      | then-k-gt-LARGEST_TURN-via-else-k-gt-LARGEST_TURN+then-k-eq1 w ↦ turn_none a.n a.k a.q (odd_turn a.k w.if-k-eq1.true)
    ]

pub returns : goal.returns
returns c = let a = c.args in turn_qubit a.n a.k a.q _ (even_turn a.k c.if-k-gt-LARGEST_TURN.false c.if-k-eq1.false) c.check_qubits.ensures
