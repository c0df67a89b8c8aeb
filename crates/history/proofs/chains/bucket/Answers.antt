-- `history::chains::bucket` meets its contract. Assumes nothing.
use mathlib.Core.Path.{refl}
use Rattle.history.specs.Newest.{bucket_of}
use Rattle.history.proofs.ChainLaws.{half_times}
use native.Mathlib.Omega.{arith}
use Rattle.history.proofs.chains.bucket.Goals as goal

pub returns : goal.returns
unfolding bucket_of
returns c = (refl, omega (arith, half_times c.args.low c.args.cap (omega arith)))
