-- `store::opening::too_wide` meets its contract. Assumes nothing.
use Rattle.store.proofs.OpenLaws.{wide_Scalar, wide_Sliced}
use Rattle.store.proofs.opening.too_wide.Goals as goal

pub returns-in-Scalar : goal.returns-in-Scalar
returns-in-Scalar c = wide_Scalar c.args.form c.args.n c.in-Scalar.is

pub returns-in-Sliced : goal.returns-in-Sliced
returns-in-Sliced c = wide_Sliced c.args.form c.args.n c.in-Sliced.is
