-- `store::opening::form_code` meets its contract. Assumes nothing.
use Rattle.store.proofs.OpenLaws.{code_Scalar, code_Sliced}
use Rattle.store.proofs.opening.form_code.Goals as goal

pub returns-in-Scalar : goal.returns-in-Scalar
returns-in-Scalar c = code_Scalar c.args.form c.in-Scalar.is

pub returns-in-Sliced : goal.returns-in-Sliced
returns-in-Sliced c = code_Sliced c.args.form c.in-Sliced.is
