-- `store::opening::open` meets its contract: it refuses as `check_opening` says, before anything is written. Assumes nothing.
use Rattle.history.specs.Sizes.{form_of}
use Rattle.store.proofs.OpenLaws.{number_zero, refuses, open_done}
use Rattle.std.proofs.lemmas.Result.{err_from_is_err_and}
use Rattle.store.proofs.opening.open.Goals as goal

pub begin-requires : goal.begin-requires
begin-requires c = let a = c.args in number_zero a.n a.cap a.allowance (form_of a.form) a.labels.now a.s.now c.in_ok-check_opening.ensures

pub returns : goal.returns
returns c = let a = c.args in open_done _ a.s.now c.begin.new.s (number_zero a.n a.cap a.allowance (form_of a.form) a.labels.now a.s.now c.in_ok-check_opening.ensures) c.begin.ensures

pub returns-in_err-check_opening : goal.returns-in_err-check_opening
returns-in_err-check_opening c =
    let a = c.args in
    let p = err_from_is_err_and c.from_residual.result c.from_residual.ensures.1 in
    rw (p.1, p.2) (refuses a.n a.cap a.allowance (form_of a.form) a.labels.now a.s.now _ c.in_err-check_opening.ensures)
