-- `lists::scalar::scan` meets its contract: the walk went on up to entry `i`, which is no later than the allowance and the list let it go.
-- Assumes nothing.
use Rattle.lists.proofs.ScanLaws.{Scanning}
use Rattle.lists.proofs.scalar.scan.Given as goal

abbrev pub invariant-loop-i : goal.invariant-loop-i
invariant-loop-i l =
    Scanning l.h l.base l.len l.events.sigs l.events.axes l.events.l l.events.count l.axis l.sig l.bit l.after l.start l.left l.end l.i
