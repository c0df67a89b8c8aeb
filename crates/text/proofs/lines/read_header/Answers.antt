-- `lines::read_header` meets its contract: no row before the one that fits does. Assumes nothing.
use Rattle.text.proofs.Rows.{unfit}
use Rattle.text.specs.Line.{read_rows}
use Rattle.text.proofs.lines.read_header.Goals as goal

pub returns-in-Some-read_by-3 : goal.returns-in-Some-read_by-3
unfolding read_rows
returns-in-Some-read_by-3 c = rw (← c.in_default.ensures, ← unfit _ _ c.read_by-2.ensures c.if-is_some.ensures, ← unfit _ _ c.read_by-3.ensures c.if-is_some-2.ensures, ← c.in_default-read_by.ensures, ← c.in_default-read_by-2.ensures, ← c.in-Some-read_by-3.ensures)

pub returns : goal.returns
unfolding read_rows
returns c = rw (← c.in_default.ensures, ← unfit _ _ c.read_by-2.ensures c.if-is_some.ensures, ← unfit _ _ c.read_by-3.ensures c.if-is_some-2.ensures, ← c.in_default-read_by.ensures, ← c.in_default-read_by-2.ensures, ← c.in_default-read_by-3.ensures)
