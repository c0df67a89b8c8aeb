-- `pauli::bits::rest` meets its contract. Assumes nothing.
use Rattle.pauli.proofs.Digits.{Rest-is}
use Rattle.pauli.proofs.bits.rest.Goals as goal

pub returns : goal.returns
returns c = Rest-is c.args.w c.requires c.ranges.w.fits
