-- `history::forms::scalar_lists` meets its contract: each place is computed as the specs say. Assumes nothing.
use Prim.Native.Nat.{◌*◌, ◌≤◌}
use native.Mathlib.Nat.{mul-le-mul_right}
use native.Mathlib.Omega.{arith}
use Rattle.model.specs.Events.{words}
use Rattle.history.proofs.forms.scalar_lists.Goals as goal

pub overflow_add-result : goal.overflow_add-result
unfolding words
overflow_add-result c =
    let z = c.args.layout.now in
    let few : z.cap ≤ 16777216 = omega arith in
    omega (arith, mul-le-mul_right (2 * z.l) few)

pub returns : goal.returns
returns c = rw (c.counts-at.ensures, c.signatures.ensures, c.axes.ensures, c.alive.ensures)
