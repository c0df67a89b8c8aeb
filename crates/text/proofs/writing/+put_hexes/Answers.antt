-- `writing::put_hexes` meets its contract. Assumes nothing.
use Rattle.text.proofs.WriteLaws.{wrote_as, wrote_none, Wrote-hexes, hexes_none}
use Rattle.text.proofs.writing.+put_hexes.Goals as goal

pub returns-then-n-eq0 : goal.returns-then-n-eq0
returns-then-n-eq0 t c = wrote_as _ _ _ _ _ _ (hexes_none _ _ c.if-n-eq0.true) (wrote_none _ _ c.requires)

pub returns : goal.returns
returns t c = Wrote-hexes _ _ _ _ _ _ _ _ _ c.if-n-eq0.false c.digit.ensures c.put_hexes-next.ensures c.put_byte.ensures
