-- `writing::put_decimal` meets its contract. Assumes nothing.
use Rattle.text.proofs.WriteLaws.{Wrote-digit, Wrote-last}
use Rattle.text.proofs.writing.+put_decimal.Goals as goal

pub returns-then-v-lt10 : goal.returns-then-v-lt10
returns-then-v-lt10 t c = Wrote-digit _ _ _ _ _ _ c.if-v-lt10.true c.digit.ensures c.put_byte.ensures

pub returns : goal.returns
returns t c = Wrote-last _ _ _ _ _ _ _ _ c.if-v-lt10.false c.ranges.v.fits c.digit-2.ensures c.put_decimal-next.ensures c.put_byte-2.ensures
