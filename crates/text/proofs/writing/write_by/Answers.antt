-- `writing::write_by` meets its contract. Assumes nothing.
use Prim.Native.Nat.{ℕ}
use native.Mathlib.Omega.{arith}
use mathlib.Core.Path.{◌≡◌, ◌∙◌, ap}
use Rattle.std.specs.Prelude.{Option, unwrap_or}
use Rattle.text.specs.Shape.{first, print}
use Rattle.text.proofs.WriteLaws.{wrote_as, wrote_none, wrote_then, next_value, print-place, print-item, print_end}
use Rattle.text.proofs.writing.write_by.Goals as goal
use Rattle.text.proofs.writing.write_by.Goals.{in-Place, in-Byte}

pub loop-c-init : goal.loop-c-init
loop-c-init c = (omega arith, (_, wrote_none _ _ (omega arith), ap (print c.args.shape.now) c.iter-left.ensures.rest))

pub loop-c-preserved : goal.loop-c-preserved
loop-c-preserved c =
    let l = c.loop-c in
    let sofar = l.invariant.1 in
    elim c.match-of.branch [
      | in-Place w ↦
          let n = next_value l.left w.next.new.self w.next.result w.next.ensures.steps in
          let v = w.unwrap_or-value in
          let e : v.result ≡ first l.left.rest.now = v.ensures ∙ ap (λ (o : Option ℕ). unwrap_or o 0) w.copied.ensures ∙ n.0 in
          rw (w.out-is, w.at-is, w.left-is) (
            w.put_value-at.ensures.within,
            (
              _,
              wrote_then _ _ _ _ _ sofar.1 _ _ _ w.put_value-at.ensures,
              print-place c.args.shape.now l.c-index c.loop-c-test.true w.in-Place.place w.in-Place.ensures l.left.rest.now sofar.0 _ sofar.2 v.result _ e n.1,
            ),
          )
      | in-Byte w ↦
          rw (w.out-is, w.at-is, w.left-is) (
            w.put_byte-at.ensures.within,
            (
              _,
              wrote_then _ _ _ _ _ sofar.1 _ _ _ w.put_byte-at.ensures,
              print-item c.args.shape.now l.c-index c.loop-c-test.true _ w.in-Byte.ensures l.left.rest.now sofar.0 _ sofar.2,
            ),
          )
    ]

pub returns : goal.returns
returns c =
    let l = c.loop-c in
    wrote_as _ _ _ _ _ _ (print_end c.args.shape.now l.left.rest.now l.c-index c.loop-c-test.false l.invariant.1.0 _ l.invariant.1.2) l.invariant.1.1
