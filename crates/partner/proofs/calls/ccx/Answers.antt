-- `partner::calls::ccx` meets its contract: it is the call of its mark. Assumes nothing.
use Rattle.marking.specs.Marks.{call_of}
use Rattle.partner.proofs.calls.ccx.Goals as goal

pub returns : goal.returns
unfolding call_of
returns c = c.enroll.ensures
