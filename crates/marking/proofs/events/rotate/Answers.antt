-- `marking::events::rotate` meets its contract: label, axis and sign are read, then the rotation is recorded. Assumes nothing.
use mathlib.Core.Bool.{true, false}
use mathlib.Core.Path.{refl}
use Rattle.std.proofs.Common.{is_ok}
use Rattle.std.proofs.lemmas.Result.{err_from_is_err_and}
use Rattle.pauli.proofs.Signs.{bits8, bits8_sign}
use Rattle.marking.proofs.PutMarks.{rotate_Records, unsigned_Records, no_axis-Records}
use native.Mathlib.Omega.{arith}
use Rattle.marking.proofs.events.rotate.Goals as goal

pub returns-in_err-axis_into-clause-done : goal.returns-in_err-axis_into-clause-done
returns-in_err-axis_into-clause-done c =
    let a = c.args in
    let p = err_from_is_err_and c.from_residual.result c.from_residual.ensures.1 in
    rw p.1 (no_axis-Records a.z.now a.s.now c.axis_into.new.out c.requires.0 (omega arith) a.kind a.q a.tag false a.s.now refl c.in_err-axis_into.ensures)

pub returns-in_default-clause-done : goal.returns-in_default-clause-done
returns-in_default-clause-done c =
    let a = c.args in
    let sgn = c.row_sign in
    unsigned_Records a.z.now a.s.now c.axis_into.new.out c.requires.0 (omega arith) a.kind a.q a.tag true sgn.result c.requires.2 c.in_ok-axis_into.ensures sgn.ensures.sign a.s.now c.in_default.is

pub returns-clause-done : goal.returns-clause-done
returns-clause-done c =
    let a = c.args in
    let tagged = c.label-high in
    let sgn = c.row_sign in
    let x = c.put in
    rotate_Records a.z.now a.s.now c.axis_into.new.out c.requires.0 (omega arith) a.kind a.q a.tag true sgn.result c.requires.2 c.in_ok-axis_into.ensures sgn.ensures.sign x.new.s (is_ok x.result) c.in-Some.sign (bits8 c.in-Some.sign) tagged.result tagged.ensures c.in-Some.is (bits8_sign c.in-Some.sign) x.ensures.done
