-- `pauli::bits::lowest` meets its contract. Assumes nothing.
use Rattle.pauli.proofs.Digits.{Lowest-is}
use Rattle.pauli.proofs.bits.lowest.Goals as goal

pub returns : goal.returns
returns c = Lowest-is c.args.w c.requires c.ranges.w.fits
