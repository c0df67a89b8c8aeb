-- `run::last` meets its contract. Assumes nothing.
use native.Mathlib.Omega.{arith}
use borrow.Author.Rules.{rules}
use Rattle.session.proofs.Playing.{last_held, last_end, last_early}
use Rattle.session.proofs.run.last.Goals as goal

pub returns-then-t-gt0 : goal.returns-then-t-gt0
returns-then-t-gt0 c = last_held _ _ _ _ c.if-line-gt-MAX_LINES.false (omega (arith, c.if-t-gt0.true)) c.write_bad.ensures

pub returns-in-Running : goal.returns-in-Running
returns-in-Running c = last_end _ _ _ _ c.if-line-gt-MAX_LINES.false _ _ c.in-Running.is (omega (arith, c.if-t-gt0.false)) c.write_end.ensures

pub returns-in_default : goal.returns-in_default
returns-in_default c = last_early c.args.t _ _ _ c.if-line-gt-MAX_LINES.false (search rules) c.write_bad-in_default.ensures
