-- `pauli::rows::marked` meets its contract: what is found so far, with what is left of the word, is the whole. Assumes nothing.
use mathlib.Core.Path.{sym, ap, ◌∙◌, subst}
use Prim.Native.Nat.{ℕ, ◌<◌, ◌^◌}
use native.Mathlib.Nat.{one-mul, div-lt_iff_lt-mul}
use native.Mathlib.Omega.{arith}
use lib.Bits.{bit_or}
use lib.Dec.{lit<}
use lib.Pow.{shl_exact}
use Rattle.pauli.specs.Rows.{blocks, left}
use Rattle.pauli.proofs.Signatures.{blocks_took}
use Rattle.pauli.proofs.rows.marked.Goals as goal

pub loop-p-preserved : goal.loop-p-preserved
loop-p-preserved c =
    let a = c.args in
    let w = c.loop-p.p-iterator.left in
    let v = c.next.new.self.left in
    let digit = c.in-Some.ensures.steps in
    let pos : 0 < a.l = omega arith in
    let small : c.block_of.result < 64 = subst (λ (n : ℕ). n < 64) (sym c.block_of.ensures) ((div-lt_iff_lt-mul pos).1 (omega (arith, digit.0.place))) in (
      omega (arith, digit.1.sum),
      λ u.
          ap (λ (n : ℕ). bit_or (bit_or c.loop-p.sum n) (blocks a.l (left u a.j v) 64))
          (shl_exact 1 c.block_of.result 64 (lit< tt) (omega arith) ∙ one-mul (2 ^ c.block_of.result) ∙ ap (λ (k : ℕ). 2 ^ k) c.block_of.ensures)
          ∙ sym (blocks_took a.l u a.j w c.in-Some.p v c.loop-p.sum (omega arith) c.loop-p.invariant.0 digit.0 digit.1) ∙ c.loop-p.invariant.1 u,
    )
