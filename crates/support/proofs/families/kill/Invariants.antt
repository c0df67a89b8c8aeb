-- `support::families::kill` meets its contract: the calls done and those left are the whole. Assumes nothing.
use mathlib.Core.Path.{◌≡◌}
use lib.ListN.{length}
use Rattle.support.proofs.RunLaws.{Going}
use Rattle.support.proofs.families.kill.Given as goal

abbrev pub invariant-loop-b : goal.invariant-loop-b
invariant-loop-b g l = (length l.h ≡ length l.initial.h) × Going (λ b s t r. g.L.Lists.kills l.lists b l.id l.events s t r) l.sig l.b-iterator.left l.initial.h l.h
