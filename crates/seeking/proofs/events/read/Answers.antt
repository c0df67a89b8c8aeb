-- `seeking::events::read` meets its contract: by what the header and then `history` told. Assumes nothing.
use mathlib.Core.Path.{ap, ◌∙◌}
use Rattle.std.proofs.Common.{Ok}
use Rattle.std.proofs.lemmas.Result.{err_from_is_err_and}
use Rattle.model.specs.Calls.{call_read}
use Rattle.store.specs.Promises.{told_read}
use Rattle.store.proofs.LentLaws.{planes_small, lent_counts}
use Rattle.store.proofs.MeetLaws.{unsound_Answers}
use Rattle.seeking.proofs.SeekLaws.{read_Says, read_nothing, read_bad}
use Rattle.seeking.proofs.events.read.Goals as goal

pub returns-in_err-check : goal.returns-in_err-check
unfolding told_read
returns-in_err-check c =
    let p = err_from_is_err_and c.from_residual.result c.from_residual.ensures.1 in
    rw (p.1, p.2) (unsound_Answers (call_read c.args.id) c.args.s.now _ c.in_err-check.ensures)

pub read-requires : goal.read-requires
read-requires c = let z = c.sizes_of-z in let e = c.layout.ensures in rw (e.cap, e.l) (lent_counts z.result c.args.s.now z.ensures, planes_small z.result c.args.s.now z.ensures)

pub returns-in_err-rotation : goal.returns-in_err-rotation
unfolding told_read
returns-in_err-rotation c =
    let p = err_from_is_err_and c.from_residual-in_err-rotation.result c.from_residual-in_err-rotation.ensures.1 in
    let z = c.sizes_of-z in
    let e = c.layout.ensures in
    rw (p.1, p.2) (read_bad z.result c.args.s.now z.ensures c.args.id c.read.result (rw (e.cap, e.l) at c.read.ensures.nothing) (rw (e.cap, e.l) at c.read.ensures.says) _ c.in_err-rotation.was)

pub returns-in-Some : goal.returns-in-Some
returns-in-Some c =
    let z = c.sizes_of-z in
    let e = c.layout.ensures in
    read_Says z.result c.args.s.now z.ensures c.args.id c.read.result (rw (e.cap, e.l) at c.read.ensures.nothing) (rw (e.cap, e.l) at c.read.ensures.says) c.in-Some.rotation (c.in_ok-rotation.was ∙ ap Ok c.in-Some.is)

pub returns-in-None : goal.returns-in-None
unfolding told_read
returns-in-None c =
    let z = c.sizes_of-z in
    let e = c.layout.ensures in
    read_nothing z.result c.args.s.now z.ensures c.args.id c.read.result (rw (e.cap, e.l) at c.read.ensures.nothing) (rw (e.cap, e.l) at c.read.ensures.says) (c.in_ok-rotation.was ∙ ap Ok c.in-None.is)
