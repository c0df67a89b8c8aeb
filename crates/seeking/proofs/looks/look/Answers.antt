-- `seeking::looks::look` meets its contract: by what the header told, and by the look. Assumes nothing.
use native.Mathlib.Omega.{arith}
use Rattle.std.proofs.lemmas.Result.{err_from_is_err_and}
use Rattle.model.specs.Calls.{call_look}
use Rattle.frame.specs.Axes.{kind_of}
use Rattle.store.specs.Promises.{told_look}
use Rattle.store.proofs.AnswerLaws.{look_few}
use Rattle.store.proofs.MeetLaws.{unsound_Answers}
use Rattle.seeking.proofs.SeekLaws.{look_out, look-Says}
use Rattle.seeking.proofs.looks.look.Goals as goal

pub returns-in_err-check : goal.returns-in_err-check
unfolding told_look
returns-in_err-check c =
    let p = err_from_is_err_and c.from_residual.result c.from_residual.ensures.1 in
    rw (p.1, p.2) (unsound_Answers (call_look (kind_of c.args.kind) c.args.q) c.args.s.now _ c.in_err-check.ensures)

pub returns-then-z-q : goal.returns-then-z-q
unfolding told_look
returns-then-z-q c = look_out c.sizes_of-z.result c.args.s.now c.sizes_of-z.ensures (kind_of c.args.kind) c.args.q (omega (arith, c.if-z-q.true))

pub returns : goal.returns
returns c =
    let z = c.sizes_of-z in
    let k = c.sought_kind in
    look-Says z.result c.args.s.now z.ensures (kind_of c.args.kind) c.args.q c.if-z-q.false (told_look k.result) (look_few k.result) k.ensures
