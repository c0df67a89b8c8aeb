-- `seeking::events::clear` meets its contract: by what the header told. Assumes nothing.
use Rattle.std.proofs.lemmas.Result.{err_from_is_err_and}
use Rattle.model.specs.Calls.{call_clear}
use Rattle.store.proofs.LentLaws.{lent_counts}
use Rattle.store.proofs.MeetLaws.{unsound_Meets}
use Rattle.seeking.proofs.SeekLaws.{clear_done}
use native.Mathlib.Omega.{arith}
use Rattle.seeking.proofs.events.clear.Goals as goal

pub returns-in_err-check : goal.returns-in_err-check
returns-in_err-check c =
    let p = err_from_is_err_and c.from_residual.result c.from_residual.ensures.1 in
    rw (p.1, p.2) (unsound_Meets call_clear c.args.s.now _ c.in_err-check.ensures)

pub clear-requires : goal.clear-requires
clear-requires c = omega (arith, lent_counts c.sizes_of-z.result c.args.s.now c.sizes_of-z.ensures)

pub returns : goal.returns
returns c = clear_done c.sizes_of-z.result c.args.s.now c.sizes_of-z.ensures c.clear.new.h c.clear.auto.h c.clear.ensures
