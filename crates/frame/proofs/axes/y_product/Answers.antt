-- `frame::axes::y_product` meets its contract. Assumes nothing.
use mathlib.Core.Path.{refl}
use Prim.Native.Nat.{◌+◌, ◌*◌, ◌≤◌}
use Rattle.frame.specs.Axes.{stride}
use Rattle.frame.proofs.AxisLaws.{pair_fits, y_row}
use Rattle.frame.proofs.axes.y_product.Goals as goal
use Rattle.frame.proofs.axes.y_product.Goals.{Start}

-- where the qubit's rows end
fits : (c : Start) → 2 * c.args.l + 1 + stride c.args.l c.args.q + (2 * c.args.l + 1) ≤ 2 * c.args.n * (2 * c.args.l + 1)
fits c = pair_fits c.args.n c.args.l c.args.q c.requires.1

pub returns-clause-row : goal.returns-clause-row
returns-clause-row c =
    let a = c.args in
    let x = c.joined-odd in
    λ f k held. (
      refl,
      rw (c.in_ok-p.ensures.phase.0, c.in_ok-t.ensures.phase.0) (y_row a.n a.l a.q x.result a.s.now x.new.out f k c.requires.1 (λ i. (c.shared_slice_known-1.given i).fits) held x.ensures.done x.ensures.crossed),
    )
