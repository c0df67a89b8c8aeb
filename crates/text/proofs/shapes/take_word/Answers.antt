-- `shapes::take_word` meets its contract. Assumes nothing.
use Prim.Native.Nat.{ℕ, ◌+◌, ◌-◌}
use native.Mathlib.Omega.{arith}
use mathlib.Core.Path.{◌≡◌, ◌∙◌, ap}
use Rattle.text.specs.Taken.{nibble, word_at}
use Rattle.text.proofs.Digits.{word_room, word_zero}
use Rattle.text.proofs.Steps.{Gets-some, Gets-none, end_word, word_none, word_next}
use Rattle.text.proofs.shapes.take_word.Goals as goal

pub overflow_mul-value : goal.overflow_mul-value
overflow_mul-value c = omega (arith, word_room (c.args.at + 16 - c.loop-i.i) (omega arith) (omega arith))

pub overflow_add-value : goal.overflow_add-value
overflow_add-value c = omega (arith, word_room (c.args.at + 16 - c.loop-i.i) (omega arith) (omega arith), c.in_ok-value.ensures.digit.1)

pub returns-in_err-get : goal.returns-in_err-get
returns-in_err-get c =
    rw c.from_residual.ensures
    (Gets-none c.args.s.now _ (c.loop-i.invariant.2 ∙ end_word _ c.loop-i.i _ _ (omega arith) c.in_err-get.ensures.lookup.3))

pub returns-in_err-value : goal.returns-in_err-value
returns-in_err-value c =
    let here = c.in_ok-get.ensures.lookup.3 in
    rw c.from_residual-in_err-value.ensures
    (Gets-none c.args.s.now _ (c.loop-i.invariant.2 ∙ word_none _ _ here.0 _ _ _ (omega arith) (ap nibble (here.1 0)) c.in_err-value.ensures.none))

pub loop-i-preserved : goal.loop-i-preserved
loop-i-preserved c =
    let l = c.loop-i in
    let here = c.in_ok-get.ensures.lookup.3 in
    let d = c.in_ok-value.ensures.digit in
    let k : ℕ = c.args.at + 16 - l.i in
    let e : c.args.at + 16 - (l.i + 1) ≡ k - 1 = omega arith in
    let room = word_room k (omega arith) (omega arith) in
    rw e
    (omega arith, omega (arith, d.1), l.invariant.2 ∙ word_next _ _ here.0 _ _ _ (omega arith) (d.0 ∙ ap nibble (here.1 0)) d.1)

pub returns : goal.returns
unfolding word_at
returns c =
    let e : c.loop-i.i ≡ c.args.at + 16 = omega arith in
    Gets-some _ _ _ _ (omega arith) (c.loop-i.invariant.2 ∙ word_zero _ _ _ (omega arith) ∙ rw e)
