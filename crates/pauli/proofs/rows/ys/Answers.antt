-- `pauli::rows::ys` meets its contract. Assumes nothing.
use mathlib.Core.Logic.{inl, inr, ⊎_elim}
use native.Mathlib.Omega.{arith}
use lib.Bits.{bit_and}
use Rattle.model.proofs.Counts.{count_ones}
use Rattle.pauli.proofs.Words.{meet-cons, meet_empty}
use Rattle.pauli.proofs.rows.ys.Goals as goal

pub loop-v-preserved : goal.loop-v-preserved
loop-v-preserved c =
    let s = c.in-Some in
    omega (arith, meet-cons _ _ _ _ s.v.now s.w.now s.ensures.steps.0 s.ensures.steps.1 (omega arith) (omega arith), count_ones (bit_and s.v.now s.w.now))

pub returns : goal.returns
returns c =
    let rest = c.loop-v.v-iterator in
    omega (arith, meet_empty rest.a.rest.now rest.b.rest.now (⊎_elim (λ e. inl e.1.0) (λ e. inr e.1.0) c.in-None.ensures.steps))
