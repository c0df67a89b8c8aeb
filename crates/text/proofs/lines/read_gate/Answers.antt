-- `lines::read_gate` meets its contract: no row before the one that fits does. Assumes nothing.
use Rattle.text.specs.Line.{read_rows}
use Rattle.text.proofs.lines.read_gate.Goals as goal

pub returns-in-Some-read_by-10 : goal.returns-in-Some-read_by-10
unfolding read_rows
returns-in-Some-read_by-10 c = rw (← c.in_default.ensures, ← c.in_default-read_by.ensures, ← c.in_default-read_by-2.ensures, ← c.in_default-read_by-3.ensures, ← c.in_default-read_by-4.ensures, ← c.in_default-read_by-5.ensures, ← c.in_default-read_by-6.ensures, ← c.in_default-read_by-7.ensures, ← c.in_default-read_by-8.ensures, ← c.in_default-read_by-9.ensures, ← c.in-Some-read_by-10.ensures)

pub returns : goal.returns
unfolding read_rows
returns c = rw (← c.in_default.ensures, ← c.in_default-read_by.ensures, ← c.in_default-read_by-2.ensures, ← c.in_default-read_by-3.ensures, ← c.in_default-read_by-4.ensures, ← c.in_default-read_by-5.ensures, ← c.in_default-read_by-6.ensures, ← c.in_default-read_by-7.ensures, ← c.in_default-read_by-8.ensures, ← c.in_default-read_by-9.ensures, ← c.in_default-read_by-10.ensures)
