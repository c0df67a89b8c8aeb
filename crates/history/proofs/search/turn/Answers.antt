-- `history::search::turn` meets its contract. Assumes nothing.
use mathlib.Core.Path.{◌≡◌, sym, ◌∙◌}
use Prim.Native.Nat.{ℕ, ◌+◌, ◌-◌, ◌*◌, ◌≤◌}
use lib.ListN.{length}
use Rattle.model.specs.Events.{Form, State, event_at}
use Rattle.model.specs.Search.{same_axis}
use Rattle.pauli.specs.Rows.{of_row}
use Rattle.history.specs.Words.{axis_place}
use Rattle.history.specs.Phases.{Met}
use Rattle.history.proofs.AxisWords.{axis_inside}
use Rattle.history.proofs.Spending.{spend_Told}
use Rattle.history.proofs.Turning.{met_there, met_compared, Turn-cleared, high-Onward, low-Onward, Turn-dry, turn_match, Turn-past}
use native.Mathlib.Omega.{arith}
use Rattle.history.proofs.search.turn.Goals as goal
use Rattle.history.proofs.search.turn.Goals.{After-same, In-Some, then-h-at-via-then-h-at, then-h-at-via-else-h-at+then-h-at-2}

-- the event's axis stands within the words
row_room : (c : In-Some) →
    let a = c.args in
    axis_place a.layout.now.cap + (a.cur - 1) * (2 * a.layout.now.l) + 2 * a.layout.now.l ≤ length a.h.now
row_room c =
    let a = c.args in
    omega (arith, axis_inside a.layout.now.cap a.layout.now.l (a.cur - 1) (omega arith), c.requires.0)

-- whether it is the same
compared : (c : After-same) (f : Form) (n : ℕ) (m : State) →
    let a = c.args in
    Met f n m a.layout.now.cap a.layout.now.l a.events a.cleared a.low (a.cur - 1) a.h.now → same_axis (of_row 0 a.axis.now).x (of_row 0 a.axis.now).z (event_at m.events (a.cur - 1)) ≡ c.same.result
compared c f n m met =
    let a = c.args in
    met_compared f n m a.layout.now.cap a.layout.now.l a.events a.cleared a.high a.low 0 0 a.cur a.h.now (omega arith) met a.axis.now c.requires.2 (row_room (goal.at.After-same c).In-Some) c.same.result (rw c.axis-from.ensures at c.same.ensures.sets)

pub returns-then-events-id-clause-turn : goal.returns-then-events-id-clause-turn
returns-then-events-id-clause-turn c = let a = c.args in
    λ f n m met. absurd (omega (arith, met_there f n m a.layout.now.cap a.layout.now.l a.events a.cleared a.high a.low 0 0 a.cur _ (omega arith) met))

pub returns-then-id-cleared-clause-turn : goal.returns-then-id-cleared-clause-turn
returns-then-id-cleared-clause-turn c = let a = c.args in
    λ f n m met. Turn-cleared f n m a.layout.now.cap a.layout.now.l a.events a.cleared a.high a.low _ _ a.cur _ (omega arith) met a.left (omega arith)

pub returns-then-h-at-clause-turn : goal.returns-then-h-at-clause-turn
returns-then-h-at-clause-turn c =
    let a = c.args in
    let on = c.onward.ensures in
    λ f n m met. elim c.then-h-at.branch [
      | then-h-at-via-then-h-at w ↦ high-Onward f n m a.layout.now.cap a.layout.now.l a.events a.cleared a.high a.low _ _ a.cur _ (omega arith) met a.left _ (rw c.label-at.ensures at w.if-h-at.true) on
      | then-h-at-via-else-h-at+then-h-at-2 w ↦ low-Onward f n m a.layout.now.cap a.layout.now.l a.events a.cleared a.high a.low _ _ a.cur _ (omega arith) met a.left _ (rw c.label-at.ensures at w.if-h-at.false) (rw c.label-at.ensures at w.if-h-at-2.true) on
    ]

pub returns-then-same-clause-turn : goal.returns-then-same-clause-turn
returns-then-same-clause-turn c =
    let a = c.args in
    let told = spend_Told a.left 1 _ (sym c.in-Some.is ∙ c.spend.ensures) in
    λ f n m met. turn_match f n m a.layout.now.cap a.layout.now.l a.events a.cleared a.high a.low _ _ a.cur _ (omega arith) met a.left (omega arith) (rw c.label-at.ensures at c.if-h-at.false) (rw c.label-at.ensures at c.if-h-at-2.false) _ told.1 told.0 (compared (goal.at.returns-then-same-clause-turn c).After-same f n m met ∙ c.if-same.true)

pub returns-in_default-clause-turn : goal.returns-in_default-clause-turn
returns-in_default-clause-turn c =
    let a = c.args in
    λ f n m met. Turn-dry f n m a.layout.now.cap a.layout.now.l a.events a.cleared a.high a.low _ _ a.cur _ (omega arith) met a.left (omega arith) (rw c.label-at.ensures at c.if-h-at.false) (rw c.label-at.ensures at c.if-h-at-2.false) (spend_Told a.left 1 _ (sym c.in_default.is ∙ c.spend.ensures))

pub returns-clause-turn : goal.returns-clause-turn
returns-clause-turn c =
    let a = c.args in
    let on = c.onward-2.ensures in
    let told = spend_Told a.left 1 _ (sym c.in-Some.is ∙ c.spend.ensures) in
    λ f n m met. Turn-past f n m a.layout.now.cap a.layout.now.l a.events a.cleared a.high a.low _ _ a.cur _ (omega arith) met a.left (omega arith) (rw c.label-at.ensures at c.if-h-at.false) (rw c.label-at.ensures at c.if-h-at-2.false) _ told.1 told.0 _ (compared (goal.at.returns-clause-turn c).After-same f n m met ∙ c.if-same.false) on
