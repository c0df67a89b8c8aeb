-- `marking::calls::enter` meets its contract: one law for each way in which it ends. Assumes nothing.
use mathlib.Core.Path.{refl}
use mathlib.Core.Bool.{true, false}
use Rattle.std.proofs.lemmas.Result.{err_from_is_err_and}
use Rattle.marking.proofs.EnrollLaws.{few_records, word_there, qubits_refused, too_many, full_refused, all_recorded, bad_recorded}
use native.Mathlib.Omega.{arith}
use Rattle.marking.proofs.calls.enter.Goals as goal

pub returns-in_err-check_mark : goal.returns-in_err-check_mark
returns-in_err-check_mark c =
    let p = err_from_is_err_and c.from_residual.result c.from_residual.ensures.1 in
    rw (p.1, p.2) (qubits_refused c.args.z.now c.args.s.now c.args.mark c.requires _ c.in_err-check_mark.ensures)

pub bounds-s-z : goal.bounds-s-z
bounds-s-z c = word_there c.args.z.now c.args.s.now c.requires

pub returns-then-z-events : goal.returns-then-z-events
returns-then-z-events c = too_many c.args.z.now c.args.s.now c.args.mark c.requires c.if-z-events.true

pub overflow_add-events : goal.overflow_add-events
overflow_add-events c = omega (arith, c.if-z-events.false, c.requires.few, few_records c.args.mark)

pub returns-then-z-events-2 : goal.returns-then-z-events-2
returns-then-z-events-2 c =
    let a = c.args in
    full_refused a.z.now a.s.now a.mark c.requires c.in_ok-check_mark.ensures (omega arith)

pub returns-in_err-either_row : goal.returns-in_err-either_row
returns-in_err-either_row c =
    let a = c.args in
    let p = err_from_is_err_and c.from_residual-in_err-either_row.result c.from_residual-in_err-either_row.ensures.1 in
    rw (p.1, p.2) (bad_recorded a.z.now a.s.now a.mark c.requires c.in_ok-check_mark.ensures c.either_row.new.s false c.either_row.auto.s (omega arith) c.in_err-either_row.ensures refl)

pub returns : goal.returns
returns c =
    let a = c.args in
    all_recorded a.z.now a.s.now a.mark c.requires c.in_ok-check_mark.ensures c.either_row.new.s true c.either_row.auto.s (omega arith) c.in_ok-either_row.ensures refl
