-- `marking::rows::join` meets its contract: the words before `i` are joined. Assumes nothing.
use Rattle.marking.proofs.RowMarks.{Joined-Sets}
use native.Mathlib.Omega.{arith}
use Rattle.marking.proofs.rows.join.Goals as goal

pub returns-after-loop-i : goal.returns-after-loop-i
returns-after-loop-i c =
    Joined-Sets c.args.out.now c.args.row.now c.loop-i.out c.args.on c.loop-i.i c.if-on.true (omega arith) c.loop-i.invariant
