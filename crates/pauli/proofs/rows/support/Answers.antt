-- `pauli::rows::support` meets its contract: what is found so far, with what the words to come give, is the whole. Assumes nothing.
use mathlib.Core.Path.{◌≡◌, sym, ap, ◌∙◌}
use Prim.Native.Nat.{ℕ, ◌+◌, ◌*◌, ◌^◌}
use native.Mathlib.Nat.{mul-one, zero-mul}
use native.Mathlib.Omega.{arith}
use lib.Bits.{bit_or, or_zero_r}
use lib.ListN.{length, get_or}
use Rattle.pauli.specs.Rows.{value, blocks}
use Rattle.pauli.proofs.Signatures.{union, union_start, union_step, union_end, left_none, left_whole, blocks_none, signature-blocks}
use Rattle.pauli.proofs.rows.support.Goals as goal

pub loop-j-init : goal.loop-j-init
loop-j-init c =
    let a = c.args in
    ap (λ (n : ℕ). blocks (length a.x.now) n 64) (mul-one (union a.x.now a.z.now 0) ∙ union_start a.x.now a.z.now)

pub loop-j-preserved : goal.loop-j-preserved
loop-j-preserved c =
    let x = c.args.x.now in
    let z = c.args.z.now in
    let j = c.loop-j.j in
    let u = union x z (j + 1) in
    let step = union_step x z j (omega arith) (omega arith) (c.type_inv.x j).fits (c.type_inv.z j).fits in
    ap (λ (n : ℕ). bit_or c.marked-sig.result (blocks (length x) n 64)) (sym (left_none u j)) ∙ c.marked-sig.ensures u
    ∙ ap (λ (n : ℕ). bit_or c.loop-j.sig (blocks (length x) n 64)) (sym (left_whole (union x z j) u j (bit_or (get_or x j 0) (get_or z j 0)) step))
    ∙ c.loop-j.invariant

pub returns : goal.returns
returns c =
    let x = c.args.x.now in
    let z = c.args.z.now in
    let j = c.loop-j.j in
    let none : union x z j ≡ 0 = union_end x z j (omega arith) (omega arith) in
    sym (or_zero_r c.loop-j.sig)
    ∙ ap (bit_or c.loop-j.sig)
    (sym (blocks_none (length x) 64) ∙ ap (λ (n : ℕ). blocks (length x) n 64) (sym (zero-mul (2 ^ (64 * j))) ∙ ap (λ (n : ℕ). n * 2 ^ (64 * j)) (sym none)))
    ∙ c.loop-j.invariant ∙ sym (signature-blocks (length x) (value x) (value z))
