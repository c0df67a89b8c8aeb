-- `partner::calls::reset` meets its contract: it is the call of its mark. Assumes nothing.
use Rattle.marking.specs.Marks.{call_of}
use Rattle.partner.proofs.calls.reset.Goals as goal

pub returns : goal.returns
unfolding call_of
returns c = c.enroll.ensures
