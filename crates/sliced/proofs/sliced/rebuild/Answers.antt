-- `sliced::sliced::rebuild` meets its contract: the live ones of the first i entries stand as a list of k. Assumes nothing.
use mathlib.Core.Path.{refl, ap}
use Rattle.std.specs.Prelude.{is_err}
use Prim.Native.Nat.{◌+◌}
use native.Mathlib.Omega.{arith}
use lib.ListN.{get_or}
use Rattle.sliced.proofs.RebuildLaws.{Building-settled, turn_at, Rebuilt-bad}
use Rattle.sliced.proofs.sliced.rebuild.Goals as goal

pub loop-i-init : goal.loop-i-init
loop-i-init c =
    let s = c.args in
    (omega arith, refl, λ m e held src. Building-settled s.h.now s.room.base s.room.cap s.room.n s.len s.live.at c.settled-front.result m c.settled-front.ensures e held)

pub loop-i-preserved : goal.loop-i-preserved
loop-i-preserved c = (
  omega (arith, c.keep.ensures.next c.in_ok-k.k c.in_ok-k.was, c.loop-i.invariant.0),
  omega (arith, c.keep.ensures.long, c.loop-i.invariant.1),
  λ m e held src. turn_at c.args.h.now c.args.room.base c.args.room.cap c.args.room.n c.args.len c.args.live.at c.args.axes c.args.live.events m c.loop-i.i c.loop-i.k c.loop-i.h e held src (c.loop-i.invariant.2 m e held src) c.loop-i-test.true c.loop-i.invariant.0 c.requires.1 c.requires.2 c.requires.3
      (get_or c.loop-i.h (c.args.room.base + c.loop-i.i) 0) c.keep.new.h c.keep.result c.in_ok-k.k refl c.keep.ensures c.in_ok-k.was,
)

pub returns-in_err-k : goal.returns-in_err-k
returns-in_err-k c =
    Rebuilt-bad c.args.h.now c.args.room.base c.args.room.cap c.args.room.n c.args.len c.args.live.at c.args.axes c.args.live.events c.loop-i.i c.loop-i.k c.loop-i.h c.loop-i.invariant.2 c.loop-i-test.true c.loop-i.invariant.0 c.requires.1 c.requires.2 c.requires.3 c.loop-i.invariant.1
    (get_or c.loop-i.h (c.args.room.base + c.loop-i.i) 0) c.keep.new.h c.keep.result refl c.keep.ensures (ap is_err c.in_err-k.was) c.from_residual.result c.from_residual.ensures.0
