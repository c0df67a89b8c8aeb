-- `pauli::rows::multiply` meets its contract: both planes are done up to i, and what is folded so far has the parity of the crossings passed.
-- Assumes nothing.
use mathlib.Core.Path.{◌≡◌, ap, ap₂, ◌∙◌, subst}
use Prim.Native.Nat.{ℕ, ◌<◌, ◌+◌, ◌-◌, ◌^◌}
use native.Mathlib.Omega.{arith}
use lib.Bits.{bit_and, bit_xor}
use lib.ListN.{get_or}
use lib.Seq.{get_or-set_other}
use mathlib.Core.Logic.{⊎_elim}
use Rattle.model.specs.Pauli.{count}
use Rattle.model.proofs.Counts.{count_zero, count_ones}
use Rattle.model.proofs.Digits.{count-xor}
use Rattle.pauli.specs.Rows.{value_at}
use Rattle.pauli.proofs.RowLaws.{cross_start, cross_turn, cross_end, Halfway, Halfway-none, Halfway-more, Halfway-all, x_at_lem, x_by, z_by, z_at_lem}
use Rattle.pauli.proofs.rows.multiply.Goals as goal

pub loop-i-init : goal.loop-i-init
loop-i-init c =
    let a = c.args in
    (Halfway-none a.frame.now a.at a.by a.l, omega (arith, count_zero, cross_start a.frame.now (a.at + a.l) a.by a.l))

pub loop-i-preserved : goal.loop-i-preserved
loop-i-preserved c =
    let loop = c.loop-i in
    let s = c.args.frame.now in
    let t = loop.frame in
    let at = c.args.at in
    let by = c.args.by in
    let l = c.args.l in
    let i = loop.i in
    let m : Halfway s at by l i t = loop.invariant.0 in
    let hi : i < l = omega arith in
    let far : by + l + i ≡ at + i → ⊥ = λ e. ⊎_elim (λ h. omega arith) (λ h. omega arith) c.requires.2 in
    let ex = x_by s t at by l i c.requires.0 c.requires.1 c.requires.2 hi m in
    let ez = z_at_lem s t at by l i c.requires.0 c.requires.1 c.requires.2 hi m in
    let fx : get_or s (by + i) 0 < 2 ^ 64 = subst (λ (w : ℕ). w < 2 ^ 64) ex (omega arith) in
    let fz : get_or s (at + l + i) 0 < 2 ^ 64 = subst (λ (w : ℕ). w < 2 ^ 64) ez (omega arith) in (
      Halfway-more s t at by l i c.requires.0 c.requires.1 c.requires.2 hi m _ _
          (ap₂ bit_xor (x_at_lem s t at by l i c.requires.0 c.requires.1 c.requires.2 hi m) ex)
          (ap₂ bit_xor ez (get_or-set_other t (at + i) (by + l + i) _ 0 far ∙ z_by s t at by l i c.requires.0 c.requires.1 c.requires.2 hi m)),
      omega (arith, cross_turn s (at + l) by l i hi fz fx, count-xor loop.acc (bit_and (get_or t (at + l + i) 0) (get_or t (by + i) 0)), ap₂ (λ (u v : ℕ). count (bit_and u v)) ez ex, loop.invariant.1),
    )

pub returns-clause-crossed : goal.returns-clause-crossed
returns-clause-crossed c =
    let a = c.args in
    omega (arith, cross_end a.frame.now (a.at + a.l) a.by a.l c.loop-i.i (omega arith), count_ones c.loop-i.acc, c.loop-i.invariant.1)

pub returns-clause-done : goal.returns-clause-done
returns-clause-done c =
    let a = c.args in
    let e : c.loop-i.i ≡ a.l = omega arith in
    Halfway-all a.frame.now c.loop-i.frame a.at a.by a.l (subst (λ (n : ℕ). Halfway a.frame.now a.at a.by a.l n c.loop-i.frame) e c.loop-i.invariant.0)
