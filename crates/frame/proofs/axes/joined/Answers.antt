-- `frame::axes::joined` meets its contract: both planes are written up to i, and what is folded so far has the parity of the crossings passed.
-- Assumes nothing.
use mathlib.Core.Path.{◌≡◌}
use Prim.Native.Nat.{◌<◌, ◌+◌}
use lib.Bits.{bit_and}
use lib.ListN.{get_or}
use Rattle.model.proofs.Counts.{count_zero, count_ones}
use Rattle.model.proofs.Digits.{count-xor}
use Rattle.pauli.proofs.RowLaws.{cross_start, cross_turn, cross_end}
use Rattle.frame.proofs.AxisLaws.{Joining-none, Joining-more, Joining-all}
use native.Mathlib.Omega.{arith}
use Rattle.frame.proofs.axes.joined.Goals as goal

pub loop-i-init : goal.loop-i-init
loop-i-init c =
    let a = c.args in
    (Joining-none a.s.now a.out.now a.at a.by a.l c.requires.2, omega (arith, count_zero, cross_start a.s.now (a.at + a.l) a.by a.l))

pub loop-i-preserved : goal.loop-i-preserved
loop-i-preserved c =
    let known = c.type_inv.s in
    let loop = c.loop-i in
    let a = c.args in
    let s = a.s.now in
    let i = loop.i in
    let hi : i < a.l = omega arith in (
      Joining-more s loop.out a.at a.by a.l i hi loop.invariant.0,
      omega (
        arith,
        cross_turn s (a.at + a.l) a.by a.l i hi (known (a.at + a.l + i)).fits (known (a.by + i)).fits,
        count-xor loop.acc (bit_and (get_or s (a.at + a.l + i) 0) (get_or s (a.by + i) 0)),
        loop.invariant.1,
      ),
    )

pub returns-clause-crossed : goal.returns-clause-crossed
returns-clause-crossed c =
    let a = c.args in
    omega (arith, cross_end a.s.now (a.at + a.l) a.by a.l c.loop-i.i (omega arith), count_ones c.loop-i.acc, c.loop-i.invariant.1)

pub returns-clause-done : goal.returns-clause-done
returns-clause-done c =
    let a = c.args in
    let i = c.loop-i.i in
    let e : i ≡ a.l = omega arith in
    Joining-all a.s.now c.loop-i.out a.at a.by a.l i e c.loop-i.invariant.0
