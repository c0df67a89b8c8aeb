-- `marking::calls::either_row` meets its contract: no row is longer than 725 words. Assumes nothing.
use Rattle.store.proofs.SizeLaws.{Framing-planes}
use native.Mathlib.Omega.{arith}
use Rattle.marking.proofs.calls.either_row.Goals as goal

pub with_row-requires-else-z-le3 : goal.with_row-requires-else-z-le3
with_row-requires-else-z-le3 c =
    let z = c.args.z.now in
    (c.requires.0, omega (arith, Framing-planes z.n z.l c.args.s.now c.requires.0.framing), omega arith, c.requires.1)
