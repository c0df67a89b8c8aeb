-- `lines::read_call` meets its contract: no row before the one that fits does. Assumes nothing.
use native.Mathlib.Omega.{arith}
use mathlib.Core.Path.{sym}
use Rattle.text.proofs.LineLaws.{tagged}
use Rattle.text.proofs.Rows.{bare, unfit}
use Rattle.text.specs.Line.{read_rows}
use Rattle.text.proofs.lines.read_call.Goals as goal

pub overflow_cast-result : goal.overflow_cast-result
overflow_cast-result c = omega (arith, tagged _ _ (sym c.in-Some-read_by.ensures))

pub returns-in-Some-read_by : goal.returns-in-Some-read_by
unfolding read_rows
returns-in-Some-read_by c = rw (← c.in_default.ensures, ← c.in-Some-read_by.ensures, c.kind_of-in-Some-read_by.ensures)

pub returns-in-Some-read_by-2 : goal.returns-in-Some-read_by-2
unfolding read_rows
returns-in-Some-read_by-2 c = rw (← c.in_default.ensures, ← c.in_default-read_by.ensures, ← c.in-Some-read_by-2.ensures)

pub returns-in-Some-read_by-3 : goal.returns-in-Some-read_by-3
unfolding read_rows
returns-in-Some-read_by-3 c = rw (← c.in_default.ensures, ← c.in_default-read_by.ensures, ← c.in_default-read_by-2.ensures, ← c.in-Some-read_by-3.ensures)

pub returns-in-Some-read_by-4 : goal.returns-in-Some-read_by-4
unfolding read_rows
returns-in-Some-read_by-4 c = rw (← c.in_default.ensures, ← c.in_default-read_by.ensures, ← c.in_default-read_by-2.ensures, ← c.in_default-read_by-3.ensures, ← c.in-Some-read_by-4.ensures)

pub returns-in-Some-read_by-5 : goal.returns-in-Some-read_by-5
unfolding read_rows
returns-in-Some-read_by-5 c = rw (← c.in_default.ensures, ← c.in_default-read_by.ensures, ← c.in_default-read_by-2.ensures, ← c.in_default-read_by-3.ensures, ← c.in_default-read_by-4.ensures, ← c.in-Some-read_by-5.ensures)

pub returns-in-Some-read_by-6 : goal.returns-in-Some-read_by-6
unfolding read_rows
returns-in-Some-read_by-6 c = rw (← c.in_default.ensures, ← c.in_default-read_by.ensures, ← c.in_default-read_by-2.ensures, ← c.in_default-read_by-3.ensures, ← c.in_default-read_by-4.ensures, ← c.in_default-read_by-5.ensures, ← c.in-Some-read_by-6.ensures)

pub returns-then-is_some : goal.returns-then-is_some
unfolding read_rows
returns-then-is_some c = rw (← c.in_default.ensures, ← c.in_default-read_by.ensures, ← c.in_default-read_by-2.ensures, ← c.in_default-read_by-3.ensures, ← c.in_default-read_by-4.ensures, ← c.in_default-read_by-5.ensures, ← c.in_default-read_by-6.ensures, ← c.read_by-8.ensures) (bare _ _ _ c.if-is_some.ensures)

pub returns : goal.returns
unfolding read_rows
returns c = rw (← c.in_default.ensures, ← c.in_default-read_by.ensures, ← c.in_default-read_by-2.ensures, ← c.in_default-read_by-3.ensures, ← c.in_default-read_by-4.ensures, ← c.in_default-read_by-5.ensures, ← c.in_default-read_by-6.ensures, ← unfit _ _ c.read_by-8.ensures c.if-is_some.ensures)
