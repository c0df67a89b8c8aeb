-- `sliced::masks::gather` meets its contract: the word of each block xor what is gathered over the digits left to do is the whole. Assumes nothing.
use mathlib.Core.Path.{sym, ◌∙◌}
use Prim.Native.Nat.{◌*◌, ◌<◌}
use native.Mathlib.Omega.{arith}
use lib.ListN.{get_or}
use Rattle.sliced.proofs.MaskLaws.{Gathering-more, gather_end, place_lt, mask_lt}
use Rattle.sliced.proofs.masks.gather.Goals as goal

pub bounds-masks-b : goal.bounds-masks-b
bounds-masks-b g c =
    let a = c.args in
    let lp : c.in-Some.p < a.n = place_lt a.n c.loop-p.p-iterator.left c.in-Some.p (omega (arith, c.loop-p.invariant.less)) c.in-Some.ensures.steps.0.one in
    omega (arith, mask_lt g.row.B c.loop-b.b a.n c.in-Some.p a.odd c.loop-b-test.true lp c.requires.2)

pub loop-p-preserved : goal.loop-p-preserved
loop-p-preserved g c =
    let a = c.args in
    let lp : c.in-Some.p < a.n = place_lt a.n c.loop-p.p-iterator.left c.in-Some.p (omega (arith, c.loop-p.invariant.less)) c.in-Some.ensures.steps.0.one in
    Gathering-more a.masks.now a.n a.odd a.set g.row.B c.loop-p.p-iterator.left c.in-Some.p c.next.new.self.left c.loop-b.b c.loop-p.acc c.loop-b.acc
    c.loop-b-test.false c.in-Some.ensures.steps.1 c.in-Some.ensures.steps.0.one lp c.loop-p.invariant c.loop-b.invariant

pub returns-clause-words : goal.returns-clause-words
returns-clause-words g c =
    let a = c.args in
    λ b l. sym (gather_end a.masks.now (b * (2 * a.n)) a.n a.odd (get_or c.loop-p.acc b 0) c.loop-p.p-iterator.left c.in-None.ensures.steps.0) ∙ c.loop-p.invariant.rest b l
