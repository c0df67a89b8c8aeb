-- `marking::events::block` meets its contract: a row of the frame, then a record. Assumes nothing.
use Rattle.marking.proofs.PutMarks.{row-Records}
use Rattle.std.proofs.Common.{is_ok}
use native.Mathlib.Omega.{arith}
use Rattle.marking.proofs.events.block.Goals as goal

pub returns-clause-done : goal.returns-clause-done
returns-clause-done c =
    let a = c.args in
    let row = c.row_into in
    let x = c.put in
    row-Records a.z.now a.s.now row.new.out c.requires.0 (omega arith) x.new.s (is_ok x.result) a.basis a.q row.ensures x.ensures.done
