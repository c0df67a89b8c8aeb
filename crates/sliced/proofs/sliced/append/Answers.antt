-- `sliced::sliced::append` meets its contract: the block is opened, both sets are marked, the live digit is set, the number is stored. Assumes nothing.
use Rattle.model.specs.Events.{words}
use Prim.Native.Nat.{◌+◌, ◌*◌, ◌%◌, ◌^◌}
use native.Mathlib.Omega.{arith}
use Rattle.pauli.proofs.Digits.{bit_is}
use Rattle.sliced.proofs.MaskLaws.{place_lt}
use Rattle.sliced.proofs.BlockLaws.{mask_in, Appended-by}
use Rattle.sliced.proofs.sliced.append.Goals as goal

pub mark-requires : goal.mark-requires
unfolding words
mark-requires c =
    λ p d. omega (
      arith,
      c.prepare.ensures.long,
      mask_in c.args.h.now c.args.room.base c.args.room.cap c.args.room.n c.args.len (2 * p + 0) c.requires.0 c.requires.1 (omega (arith, place_lt c.args.room.n c.args.x p c.requires.2 d)),
    )

pub mark-requires-2 : goal.mark-requires-2
unfolding words
mark-requires-2 c =
    λ p d. omega (
      arith,
      c.prepare.ensures.long,
      c.mark.ensures.long,
      mask_in c.args.h.now c.args.room.base c.args.room.cap c.args.room.n c.args.len (2 * p + 1) c.requires.0 c.requires.1 (omega (arith, place_lt c.args.room.n c.args.z p c.requires.3 d)),
    )

pub returns : goal.returns
unfolding words
returns c =
    rw c.live-live.ensures (Appended-by c.args.h.now c.args.room.base c.args.room.cap c.args.room.n c.args.len c.args.id c.args.x c.args.z ((1 * 2 ^ (c.args.len % 64)) % 2 ^ 64)
    c.prepare.new.h c.mark.new.h c.mark-2.new.h c.requires.0 c.requires.1 c.requires.2 c.requires.3
    (bit_is 64 (c.args.len % 64) (omega arith)) c.prepare.ensures (rw c.masks-masks.ensures at c.mark.ensures) (rw c.masks-masks.ensures at c.mark-2.ensures))
