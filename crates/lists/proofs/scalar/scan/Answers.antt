-- `lists::scalar::scan` meets its contract: the walk went on up to entry `i`, which is no later than the allowance and the list let it go.
-- Assumes nothing.
use mathlib.Core.Path.{refl, ap, ◌∙◌}
use Rattle.std.specs.Prelude.{Ok, is_err}
use mathlib.Core.Logic.{inl, inr}
use Rattle.pauli.proofs.Digits.{bit_is}
use Rattle.lists.proofs.ScanLaws.{Scanning-start, Scanning-more, scan_hit, scan_not_bad, scan_out, scan_clear}
use Rattle.lists.proofs.scalar.scan.Goals as goal
use Rattle.lists.proofs.scalar.scan.Goals.{then-left-rest, else-left-rest}

pub loop-i-init : goal.loop-i-init
loop-i-init c =
    let a = c.args in
    Scanning-start a.h.now a.base a.len a.events.sigs a.events.axes a.events.l a.events.count a.axis.now a.sig a.bit a.after c.first_past-start.result a.budget.0 c.if-left-rest.end c.requires.0 c.first_past-start.ensures.within c.first_past-start.ensures.splits
    (elim c.if-left-rest.branch [ then-left-rest w ↦ inl (w.if-left-rest.true, w.end-is) | else-left-rest w ↦ inr (w.if-left-rest.false, w.end-is) ])

pub loop-i-preserved : goal.loop-i-preserved
loop-i-preserved c =
    let a = c.args in
    Scanning-more a.h.now a.base a.len a.events.sigs a.events.axes a.events.l a.events.count a.axis.now a.sig a.bit a.after c.first_past-start.result a.budget.0 c.if-left-rest.end c.loop-i.i c.loop-i.invariant c.requires.4 c.loop-i-test.true c.meets.result _ _ refl (bit_is 64 a.bit c.requires.4)
    c.meets.ensures (c.in_ok-meets.was ∙ ap Ok c.if-branch.false)

pub returns-then-branch : goal.returns-then-branch
returns-then-branch c =
    let a = c.args in
    λ st ok is one. ap Ok (scan_hit a.h.now a.base a.len a.events.sigs a.events.axes a.events.l a.events.count a.axis.now a.sig a.bit a.after c.first_past-start.result a.budget.0 c.if-left-rest.end c.loop-i.i c.loop-i.invariant c.requires.4 c.loop-i-test.true c.meets.result _ _ refl (bit_is 64 a.bit c.requires.4)
    c.meets.ensures (c.in_ok-meets.was ∙ ap Ok c.if-branch.true) st ok is one)

pub returns-in_err-meets : goal.returns-in_err-meets
returns-in_err-meets c =
    let a = c.args in
    λ st ok is one. scan_not_bad a.h.now a.base a.len a.events.sigs a.events.axes a.events.l a.events.count a.axis.now a.sig a.bit a.after c.first_past-start.result a.budget.0 c.if-left-rest.end c.loop-i.i c.loop-i.invariant c.requires.4 c.loop-i-test.true c.meets.result _ _ refl (bit_is 64 a.bit c.requires.4)
    c.meets.ensures (ap is_err c.in_err-meets.was) st ok is one

pub returns-then-left-rest-2 : goal.returns-then-left-rest-2
returns-then-left-rest-2 c =
    let a = c.args in
    λ st ok is one. ap Ok (scan_out a.h.now a.base a.len a.events.sigs a.events.axes a.events.l a.events.count a.axis.now a.sig a.bit a.after c.first_past-start.result a.budget.0 c.if-left-rest.end c.loop-i.i c.loop-i.invariant c.loop-i-test.false st ok is one c.if-left-rest-2.true)

pub returns : goal.returns
returns c =
    let a = c.args in
    λ st ok is one. ap Ok (scan_clear a.h.now a.base a.len a.events.sigs a.events.axes a.events.l a.events.count a.axis.now a.sig a.bit a.after c.first_past-start.result a.budget.0 c.if-left-rest.end c.loop-i.i c.loop-i.invariant c.loop-i-test.false st ok is one c.if-left-rest-2.false)
