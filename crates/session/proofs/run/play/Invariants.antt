use Rattle.session.proofs.Playing.{Played}
use Rattle.session.proofs.run.play.Given as goal

abbrev pub invariant-loop-b : goal.invariant-loop-b
invariant-loop-b l = Played l.initial.t l.input l.initial.buf l.initial.labels l.initial.store l.initial.out l.buf l.labels l.store l.out l.t l.at l.b-index
