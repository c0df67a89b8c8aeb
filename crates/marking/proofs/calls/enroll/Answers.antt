-- `marking::calls::enroll` meets its contract: what the header says, then `enter`. Assumes nothing.
use Rattle.std.proofs.lemmas.Result.{err_from_is_err_and}
use Rattle.marking.specs.Marks.{call_of}
use Rattle.store.proofs.MeetLaws.{unsound_Meets}
use Rattle.marking.proofs.calls.enroll.Goals as goal

pub returns-in_err-check : goal.returns-in_err-check
returns-in_err-check c =
    let p = err_from_is_err_and c.from_residual.result c.from_residual.ensures.1 in
    rw (p.1, p.2) (unsound_Meets (call_of c.args.mark) c.args.s.now _ c.in_err-check.ensures)
