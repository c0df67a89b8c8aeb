-- `history::search::candidate` meets its contract: what is left of the phase at cur is what is left of the whole. Assumes nothing.
use mathlib.Core.List.{List}
use Prim.Native.Nat.{ℕ}
use Rattle.model.specs.Events.{Form, State}
use Rattle.model.specs.Search.{walk, phase1}
use Rattle.pauli.specs.Rows.{of_row}
use Rattle.lists.specs.declared.budget.Budget.{Budget}
use Rattle.history.specs.Words.{Holds}
use Rattle.history.specs.Phases.{label_of}
use Rattle.history.proofs.Turning.{Cursor}
use Rattle.history.proofs.search.candidate.Given as goal

abbrev Cursors : (h : List ℕ) (cap l high low : ℕ) (axis : List ℕ) (budget : Budget) (cur : ℕ) (left : Budget) → Type 0
Cursors h cap l high low axis budget cur left =
    (f : Form) (n : ℕ) (m : State) → Holds f n cap l m h
    → Cursor m cap high low (of_row 0 axis).x (of_row 0 axis).z (walk (phase1 m (label_of high low) (of_row 0 axis).x (of_row 0 axis).z) budget.0) cur left

abbrev pub invariant-loop-cur : goal.invariant-loop-cur
invariant-loop-cur l = Cursors l.h l.layout.cap l.layout.l l.high l.low l.axis l.initial.left l.cur l.left

abbrev pub decreases-loop-cur : goal.decreases-loop-cur
decreases-loop-cur l = l.cur
