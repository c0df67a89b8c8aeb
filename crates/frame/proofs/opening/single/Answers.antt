-- `frame::opening::single` meets its contract. Assumes nothing.
use Prim.Native.Nat.{◌+◌, ◌*◌, ◌^◌}
use Rattle.frame.proofs.FreshLaws.{Written-only}
use Rattle.pauli.proofs.Digits.{bit_is}
use native.Mathlib.Omega.{arith}
use Rattle.frame.proofs.opening.single.Goals as goal

pub returns : goal.returns
returns c =
    let x = c.clear in
    Written-only c.args.s.now x.new.s c.args.at (2 * c.args.l + 1) (1 + c.args.j) (2 ^ c.args.r) _ c.requires.0 (omega arith) (bit_is 64 c.args.r c.requires.2) x.ensures
