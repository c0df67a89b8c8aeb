-- `support::families::scan` meets its contract: the scans done and those left, with the steps left, are the whole. Assumes nothing.
use Rattle.support.proofs.RunLaws.{Scanning}
use Rattle.support.proofs.families.scan.Given as goal

abbrev pub invariant-loop-b : goal.invariant-loop-b
invariant-loop-b g l = Scanning (λ b left r. g.L.Lists.scans l.lists b l.events l.axis l.sig l.after left l.h r) l.sig l.b-iterator.left l.initial.left l.left
