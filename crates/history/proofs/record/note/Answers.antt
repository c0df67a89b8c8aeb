-- `history::record::note` meets its contract. Assumes nothing.
use Prim.Native.Nat.{◌*◌, ◌%◌, ◌^◌}
use lib.ListN.{length-set}
use Rattle.pauli.proofs.Digits.{bit_is}
use Rattle.history.proofs.StoreLaws.{alive_inside, noted}
use native.Mathlib.Omega.{arith}
use Rattle.history.proofs.record.note.Goals as goal

pub bounds-h-alive : goal.bounds-h-alive
bounds-h-alive c =
    let z = c.args.layout.now in
    simp length-set (omega (arith, c.copy.ensures.same_length, alive_inside z.cap z.l c.args.id c.requires.2))

pub bounds-h-alive-2 : goal.bounds-h-alive-2
bounds-h-alive-2 c =
    let z = c.args.layout.now in
    simp length-set (omega (arith, c.copy.ensures.same_length, alive_inside z.cap z.l c.args.id c.requires.2))

pub returns : goal.returns
returns c =
    let a = c.args in
    let z = a.layout.now in
    let pre = c.requires in
    rw (c.alive.ensures, c.signature.ensures, c.tag.ensures)
    (noted a.h.now c.copy.new.s a.axis.now z.l z.cap a.id a.sig a.word ((1 * 2 ^ (a.id % 64)) % 2 ^ 64) pre.0 pre.2 pre.3
    (bit_is 64 (a.id % 64) (omega arith)) (rw c.axis.ensures at c.copy.ensures))
