-- `shapes::read_by` meets its contract. Assumes nothing.
use mathlib.Core.Path.{◌∙◌, sym}
use Rattle.text.proofs.Walk.{walk_got, walk_past, walk_no_value, walk_no_byte, walk_end, walk_long}
use Rattle.text.proofs.shapes.read_by.Goals as goal
use Rattle.text.proofs.shapes.read_by.Goals.{in-Place+in_ok-value-in-Place, in-Byte+in_ok-at-in-Byte}

pub returns-in_err-value-in-Place : goal.returns-in_err-value-in-Place
returns-in_err-value-in-Place c =
    let l = c.loop-c in
    c.from_residual.ensures ∙ sym (l.invariant.1 ∙ walk_no_value _ c.args.s.now _ l.at _ c.loop-c-test.true _ c.in-Place.ensures c.in_err-value-in-Place.ensures)

pub returns-in_err-at-in-Byte : goal.returns-in_err-at-in-Byte
returns-in_err-at-in-Byte c =
    let l = c.loop-c in
    c.from_residual-in_err-at-in-Byte.ensures ∙ sym (l.invariant.1 ∙ walk_no_byte _ c.args.s.now _ l.at _ c.loop-c-test.true _ c.in-Byte.ensures c.in_err-at-in-Byte.ensures)

pub loop-c-preserved : goal.loop-c-preserved
loop-c-preserved c =
    let l = c.loop-c in
    elim c.match-of.branch [
      | in-Place+in_ok-value-in-Place w ↦
          let r = walk_got _ c.args.s.now l.values l.at _ c.loop-c-test.true _ w.in-Place.ensures _ _ w.in_ok-value-in-Place.ensures in
          rw (w.values-is, w.at-is, w.push-values.ensures) (r.0, l.invariant.1 ∙ r.1)
      | in-Byte+in_ok-at-in-Byte w ↦
          let r = walk_past _ c.args.s.now l.values l.at _ c.loop-c-test.true _ w.in-Byte.ensures _ w.in_ok-at-in-Byte.ensures in
          rw (w.values-is, w.at-is) (r.0, l.invariant.1 ∙ r.1)
    ]

pub returns-then-at-s : goal.returns-then-at-s
returns-then-at-s c = sym (c.loop-c.invariant.1 ∙ walk_end _ _ _ _ _ c.loop-c-test.false c.if-at-s.true)

pub returns-else-at-s : goal.returns-else-at-s
returns-else-at-s c = sym (c.loop-c.invariant.1 ∙ walk_long _ _ _ _ _ c.loop-c-test.false c.loop-c.invariant.0 c.if-at-s.false)
