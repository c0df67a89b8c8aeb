-- `answers::write_refusal` meets its contract. Assumes nothing.
use Rattle.text.specs.Spoken.{spoken}
use Rattle.text.proofs.answers.write_refusal.Goals as goal

pub returns : goal.returns
unfolding spoken
returns c = c.write_by.ensures
