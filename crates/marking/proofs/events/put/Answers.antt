-- `marking::events::put` meets its contract: one record on the history's part. Assumes nothing.
use Rattle.std.proofs.Common.{Ok, Err}
use Rattle.std.proofs.lemmas.Result.{err_from_is_err_and}
use Rattle.pauli.proofs.Words.{rest_length}
use Rattle.marking.proofs.PutMarks.{put_done}
use Rattle.store.proofs.LentLaws.{lent-Sized}
use native.Mathlib.Omega.{arith}
use Rattle.marking.proofs.events.put.Goals as goal

pub record-requires : goal.record-requires
record-requires c =
    let a = c.args in
    let e = c.layout.ensures in
    rw (e.form, e.n, e.cap, e.l) (lent-Sized a.z.now a.s.now c.requires.0, omega (arith, rest_length a.row.now 1, c.requires.1), c.requires.2)

pub returns-in_err-record-clause-done : goal.returns-in_err-record-clause-done
returns-in_err-record-clause-done c =
    let a = c.args in
    let e = c.layout.ensures in
    let p = err_from_is_err_and c.from_residual.result c.from_residual.ensures.1 in
    rw p.1 (put_done a.z.now a.s.now c.«record».new.h a.row.now a.body (Err _) c.requires.0 (rw (e.form, e.n, e.cap, e.l) at c.in_err-record.ensures.done))

pub returns-clause-done : goal.returns-clause-done
returns-clause-done c =
    let a = c.args in
    let e = c.layout.ensures in
    put_done a.z.now a.s.now c.«record».new.h a.row.now a.body (Ok _) c.requires.0 (rw (e.form, e.n, e.cap, e.l) at c.in_ok-record.ensures.done)
