-- `marking::events::block_product` meets its contract: a product, then a record. Assumes nothing.
use Rattle.marking.proofs.PutMarks.{product_Records}
use Rattle.std.proofs.Common.{is_ok}
use native.Mathlib.Omega.{arith}
use Rattle.marking.proofs.events.block_product.Goals as goal

pub returns-clause-done : goal.returns-clause-done
returns-clause-done c =
    let a = c.args in
    let row = c.product_into in
    let x = c.put in
    product_Records a.z.now a.s.now row.new.out c.requires.0 (omega arith) x.new.s (is_ok x.result) a.basis a.a a.b a.t a.i c.requires.5 row.ensures x.ensures.done
