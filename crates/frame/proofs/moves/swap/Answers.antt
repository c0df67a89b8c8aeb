-- `frame::moves::swap` meets its contract. Assumes nothing.
use mathlib.Core.Path.{refl}
use Prim.Native.Nat.{◌+◌, ◌*◌, ◌≤◌}
use Rattle.frame.specs.Places.{row_place}
use Rattle.frame.proofs.RowedLaws.{row_fits, rows_apart, swapped_Rowed}
use native.Mathlib.Omega.{arith}
use Rattle.frame.proofs.moves.swap.Goals as goal
use Rattle.frame.proofs.moves.swap.Goals.{Start}

-- where the rows end
g-fits : (c : Start) → row_place c.args.l c.args.g + (2 * c.args.l + 1) ≤ c.args.m * (2 * c.args.l + 1)
g-fits c = row_fits c.args.m c.args.l c.args.g c.requires.1

k-fits : (c : Start) → row_place c.args.l c.args.k + (2 * c.args.l + 1) ≤ c.args.m * (2 * c.args.l + 1)
k-fits c = row_fits c.args.m c.args.l c.args.k c.requires.2

pub exchange-requires : goal.exchange-requires
exchange-requires c =
    let s = (goal.at.exchange-requires c).Start in
    (omega (arith, g-fits s), omega (arith, k-fits s), rows_apart c.args.l c.args.g c.args.k c.requires.3)

pub returns : goal.returns
returns c = λ P L held. (
  refl,
  swapped_Rowed c.args.m c.args.l c.args.g c.args.k c.args.s.now _ _ P L c.requires.1 c.requires.2 c.requires.3 held
      c.exchange.ensures c.exchange-2.ensures,
)
