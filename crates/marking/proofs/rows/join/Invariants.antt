-- `marking::rows::join` meets its contract: the words before `i` are joined. Assumes nothing.
use Rattle.marking.proofs.RowMarks.{Joined}
use Rattle.marking.proofs.rows.join.Given as goal

abbrev pub invariant-loop-i : goal.invariant-loop-i
invariant-loop-i l = Joined l.initial.out l.row l.i l.out
