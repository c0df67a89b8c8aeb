-- `pauli::rows::crossed_twice` meets its contract: what is folded so far has the parity of the words passed. Assumes nothing.
use native.Mathlib.Omega.{arith}
use lib.ListN.{get_or}
use lib.Bits.{bit_and, bit_xor}
use Rattle.model.proofs.Counts.{count_zero, count_ones}
use Rattle.model.proofs.Digits.{count-xor}
use Rattle.pauli.proofs.Words.{common_start, common_step, common_end}
use Rattle.pauli.proofs.rows.crossed_twice.Goals as goal

pub loop-i-init : goal.loop-i-init
loop-i-init c = omega (arith, count_zero, common_start c.args.x.now c.args.w.now, common_start c.args.z.now c.args.v.now)

pub loop-i-preserved : goal.loop-i-preserved
loop-i-preserved c =
    let x = c.args.x.now in
    let z = c.args.z.now in
    let v = c.args.v.now in
    let w = c.args.w.now in
    let i = c.loop-i.i in
    let one = common_step x w i (omega arith) (omega arith) (c.type_inv.x i).fits (c.type_inv.w i).fits in
    let two = common_step z v i (omega arith) (omega arith) (c.type_inv.z i).fits (c.type_inv.v i).fits in
    let p = bit_and (get_or x i 0) (get_or w i 0) in
    let q = bit_and (get_or z i 0) (get_or v i 0) in
    omega (arith, one, two, count-xor c.loop-i.acc (bit_xor p q), count-xor p q)

pub returns : goal.returns
returns c =
    let i = c.loop-i.i in
    omega (arith, common_end c.args.x.now c.args.w.now i (omega arith), common_end c.args.z.now c.args.v.now i (omega arith), count_ones c.loop-i.acc)
