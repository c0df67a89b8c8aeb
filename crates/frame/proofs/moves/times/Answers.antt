-- `frame::moves::times` meets its contract. Assumes nothing.
use mathlib.Core.Path.{refl}
use mathlib.Core.Logic.{inl, inr, ⊎_elim}
use Prim.Native.Nat.{◌+◌, ◌*◌, ◌≤◌}
use Rattle.frame.specs.Places.{row_place}
use Rattle.frame.proofs.RowedLaws.{row_fits, rows_apart, times_Rowed}
use native.Mathlib.Omega.{arith}
use Rattle.frame.proofs.moves.times.Goals as goal
use Rattle.frame.proofs.moves.times.Goals.{Start}

-- where the rows end
g-fits : (c : Start) → row_place c.args.l c.args.g + (2 * c.args.l + 1) ≤ c.args.m * (2 * c.args.l + 1)
g-fits c = row_fits c.args.m c.args.l c.args.g c.requires.1

k-fits : (c : Start) → row_place c.args.l c.args.k + (2 * c.args.l + 1) ≤ c.args.m * (2 * c.args.l + 1)
k-fits c = row_fits c.args.m c.args.l c.args.k c.requires.2

pub multiply-odd-requires : goal.multiply-odd-requires
multiply-odd-requires c =
    let s = (goal.at.multiply-odd-requires c).Start in (
      omega (arith, g-fits s),
      omega (arith, k-fits s),
      ⊎_elim (λ h. inl (omega arith)) (λ h. inr (omega arith)) (rows_apart c.args.l c.args.g c.args.k c.requires.3),
    )

pub returns : goal.returns
returns c = λ P L held.
    let x = c.multiply-odd in (
      refl,
      times_Rowed c.args.m c.args.l c.args.g c.args.k c.args.by x.result c.args.s.now x.new.frame _ P L c.requires.1 c.requires.2 c.requires.3
          (λ i. (c.slice_known-1.given i).fits) held x.ensures.done x.ensures.crossed c.mix.ensures,
    )
