-- `cases::number` meets its contract. Assumes nothing.
use mathlib.Core.Path.{sym, ap, ◌∙◌}
use mathlib.Core.Bool.{Bool, cond}
use native.Mathlib.Omega.{arith}
use borrow.Author.Tests.{eq-eqb, ne_eqb}
use Rattle.cases.specs.Seen.{number_of}
use Rattle.cases.proofs.number.Goals as goal

pub returns-in-Some-eq1 : goal.returns-in-Some-eq1
unfolding number_of
returns-in-Some-eq1 c = sym (ap number_of c.in-Some-eq1.is ∙ ap (λ (b : Bool). cond b 1 2) (eq-eqb _ 1 (omega arith)))

pub returns-in-Some : goal.returns-in-Some
unfolding number_of
returns-in-Some c = sym (ap number_of c.in-Some.is ∙ ap (λ (b : Bool). cond b 1 2) (ne_eqb _ 1 (λ e. omega arith)))

pub returns-in-None : goal.returns-in-None
unfolding number_of
returns-in-None c = sym (ap number_of c.in-None.is)
