-- `marking::events::block_products` meets its contract: the products before `i` are recorded. Assumes nothing.
use mathlib.Core.Bool.{true, false}
use mathlib.Core.Path.{refl}
use Rattle.std.proofs.lemmas.Result.{err_from_is_err_and}
use Rattle.marking.specs.Marks.{products}
use Rattle.marking.proofs.PutMarks.{Sofar-none, product_next, product_fail, product_all}
use native.Mathlib.Omega.{arith}
use Rattle.marking.proofs.events.block_products.Goals as goal

pub loop-i-init : goal.loop-i-init
loop-i-init c =
    let a = c.args in
    (c.requires.0, c.requires.1, refl, Sofar-none (products a.basis a.a a.b a.t) a.s.now)

pub returns-in_err-block_product-clause-done : goal.returns-in_err-block_product-clause-done
returns-in_err-block_product-clause-done c =
    let a = c.args in
    let x = c.block_product in
    let p = err_from_is_err_and c.from_residual.result c.from_residual.ensures.1 in
    rw p.1 (product_fail a.basis a.a a.b a.t c.loop-i.i a.s.now c.loop-i.s x.new.s false c.loop-i-test.true c.loop-i.invariant.3 c.in_err-block_product.ensures.done refl)

pub loop-i-preserved : goal.loop-i-preserved
loop-i-preserved c =
    let a = c.args in
    let x = c.block_product in
    (x.ensures.fit, omega arith, omega arith, product_next a.basis a.a a.b a.t c.loop-i.i a.s.now c.loop-i.s x.new.s true c.loop-i-test.true c.loop-i.invariant.3 c.in_ok-block_product.ensures.done)

pub returns-clause-done : goal.returns-clause-done
returns-clause-done c =
    let a = c.args in
    product_all a.basis a.a a.b a.t c.loop-i.i a.s.now c.loop-i.s (omega arith) c.loop-i.invariant.3
