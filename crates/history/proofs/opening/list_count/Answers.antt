-- `history::opening::list_count` meets its contract: a case for each form. Assumes nothing.
use Rattle.history.proofs.OpenLaws.{count_scalar, count_sliced}
use Rattle.history.proofs.opening.list_count.Goals as goal

pub returns-in-Scalar : goal.returns-in-Scalar
returns-in-Scalar c = let a = c.args in count_scalar a.form a.n c.in-Scalar.is

pub returns-in-Sliced : goal.returns-in-Sliced
returns-in-Sliced c = let a = c.args in count_sliced a.form a.n c.in-Sliced.is
