-- `seeking::events::kill` meets its contract: by what the header and then `history` told. Assumes nothing.
use Rattle.std.proofs.lemmas.Result.{err_from_is_err_and}
use Rattle.model.specs.Calls.{call_kill}
use Rattle.store.proofs.LentLaws.{lent-Sized}
use Rattle.store.proofs.MeetLaws.{unsound_Meets}
use Rattle.seeking.proofs.SeekLaws.{kill-Done, kill_failed}
use Rattle.seeking.proofs.events.kill.Goals as goal

pub returns-in_err-check : goal.returns-in_err-check
returns-in_err-check c =
    let p = err_from_is_err_and c.from_residual.result c.from_residual.ensures.1 in
    rw (p.1, p.2) (unsound_Meets (call_kill c.args.id) c.args.s.now _ c.in_err-check.ensures)

pub kill-requires : goal.kill-requires
kill-requires c = let e = c.layout.ensures in rw (e.form, e.n, e.cap, e.l) (lent-Sized c.sizes_of-z.result c.args.s.now c.sizes_of-z.ensures)

pub returns-in_err-kill : goal.returns-in_err-kill
returns-in_err-kill c =
    let p = err_from_is_err_and c.from_residual-in_err-kill.result c.from_residual-in_err-kill.ensures.1 in
    let k = c.kill in
    let e = c.layout.ensures in
    rw (p.1, p.2) (kill_failed c.sizes_of-z.result c.args.s.now c.sizes_of-z.ensures k.new.h c.args.id k.result k.ensures.long (rw (e.form, e.n, e.cap, e.l) at k.ensures.refused) (rw (e.form, e.n, e.cap, e.l) at k.ensures.done) _ c.in_err-kill.was k.ensures.kept)

pub returns : goal.returns
returns c =
    let k = c.kill in
    let e = c.layout.ensures in
    kill-Done c.sizes_of-z.result c.args.s.now c.sizes_of-z.ensures k.new.h c.args.id k.result k.ensures.long (rw (e.form, e.n, e.cap, e.l) at k.ensures.refused) (rw (e.form, e.n, e.cap, e.l) at k.ensures.done) _ c.in_ok-kill.was
