-- `sliced::sliced::cost` meets its contract: a word of ones has 64. Assumes nothing.
use Rattle.model.specs.Pauli.{count, count_in}
use Rattle.model.proofs.Counts.{count_ones}
use Rattle.sliced.proofs.sliced.cost.Goals as goal

pub returns-then-live : goal.returns-then-live
unfolding count count_in
returns-then-live c = rw c.if-live.true (count_ones 18446744073709551615)
