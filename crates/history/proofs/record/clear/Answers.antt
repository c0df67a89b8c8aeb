-- `history::record::clear` meets its contract. Assumes nothing.
use Rattle.history.proofs.OpenLaws.{cleared_Becomes}
use native.Mathlib.Omega.{arith}
use Rattle.history.proofs.record.clear.Goals as goal

pub returns : goal.returns
returns c = λ f n cap l m held. cleared_Becomes f n cap l m c.args.h.now (omega arith) held
