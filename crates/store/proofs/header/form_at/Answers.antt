-- `store::header::form_at` meets its contract: by the test. Assumes nothing.
use borrow.Author.Tests.{eq-eqb, ne_eqb}
use Rattle.store.specs.Checks.{form_at}
use mathlib.Core.Path.{refl}
use Rattle.store.proofs.header.form_at.Goals as goal

pub returns-then-word-eq0 : goal.returns-then-word-eq0
unfolding form_at
returns-then-word-eq0 c = rw (eq-eqb c.args.word 0 c.if-word-eq0.true) refl

pub returns-else-word-eq0 : goal.returns-else-word-eq0
unfolding form_at
returns-else-word-eq0 c = rw (ne_eqb c.args.word 0 c.if-word-eq0.false) refl
