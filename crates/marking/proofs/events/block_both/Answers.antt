-- `marking::events::block_both` meets its contract: two records in a row. Assumes nothing.
use mathlib.Core.Bool.{true, false}
use mathlib.Core.Path.{refl}
use Rattle.std.proofs.Common.{is_ok}
use Rattle.std.proofs.lemmas.Result.{err_from_is_err_and}
use Rattle.marking.proofs.MarkLaws.{reset_fail, reset_both}
use Rattle.marking.proofs.events.block_both.Goals as goal

pub returns-in_err-block-clause-done : goal.returns-in_err-block-clause-done
returns-in_err-block-clause-done c =
    let a = c.args in
    let p = err_from_is_err_and c.from_residual.result c.from_residual.ensures.1 in
    rw p.1 (reset_fail a.q a.s.now c.block.new.s false c.in_err-block.ensures.done refl)

pub returns-clause-done : goal.returns-clause-done
returns-clause-done c =
    let a = c.args in
    let y = c.block-2 in
    reset_both a.q a.s.now c.block.new.s true c.in_ok-block.ensures.done y.new.s (is_ok y.result) y.ensures.done
