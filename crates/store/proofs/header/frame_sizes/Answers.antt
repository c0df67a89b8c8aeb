-- `store::header::frame_sizes` meets its contract: each test passes on every store that holds a state. Assumes nothing.
use Rattle.model.specs.Events.{words}
use native.Mathlib.Omega.{arith}
use Rattle.store.proofs.SizeLaws.{no_qubit, many_qubits, frame_missing, Framing-of}
use Rattle.store.proofs.header.frame_sizes.Goals as goal
use Rattle.store.proofs.header.frame_sizes.Goals.{then-n-eq0-via-then-n-eq0, then-n-eq0-via-else-n-eq0+then-n-gt23168}

pub returns-then-n-eq0 : goal.returns-then-n-eq0
returns-then-n-eq0 c = (
  record { header = omega arith; size = omega arith },
  λ m h. elim c.then-n-eq0.branch [
    | then-n-eq0-via-then-n-eq0 w ↦ no_qubit c.args.s.now m h w.if-n-eq0.true
    | then-n-eq0-via-else-n-eq0+then-n-gt23168 w ↦ many_qubits c.args.s.now m h w.if-n-gt23168.true
  ],
)

pub returns-then-size-history_place : goal.returns-then-size-history_place
unfolding words
returns-then-size-history_place c = (record { header = omega arith; size = omega arith }, λ m h. frame_missing c.args.s.now m h (omega arith))

pub returns : goal.returns
unfolding words
returns c =
    Framing-of c.args.s.now (record { header = omega arith; size = omega arith }) c.if-n-eq0.false c.if-n-gt23168.false (omega arith)
