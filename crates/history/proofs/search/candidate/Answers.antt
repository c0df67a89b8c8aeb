-- `history::search::candidate` meets its contract: what is left of the phase at cur is what is left of the whole. Assumes nothing.
use mathlib.Core.Path.{◌≡◌, refl, sym, ap, ◌∙◌, subst}
use Prim.Native.Nat.{ℕ, ◌+◌, ◌<◌}
use lib.ListN.{get_or}
use Rattle.model.specs.Events.{Form, State}
use Rattle.model.specs.Search.{walk, phase1}
use Rattle.pauli.specs.Rows.{of_row}
use Rattle.std.proofs.Common.{Result, Ok, IsOkAnd}
use Rattle.pauli.specs.declared.corrupt.Corrupt.{Corrupt}
use Rattle.history.specs.declared.search.Visit.{Visit}
use Rattle.history.specs.Words.{Holds}
use Rattle.history.specs.Phases.{label_of, Turn}
use Rattle.history.proofs.Turning.{Cursor, Cursor-begins, Cursor-goes, Cursor-ends}
use native.Mathlib.Omega.{arith}
use Rattle.history.proofs.search.candidate.Goals as goal
use Rattle.history.proofs.search.candidate.Goals.{After-turn}

-- the turn at cur, of a state that the words hold
turned : (c : After-turn) (f : Form) (n : ℕ) (m : State) →
    let a = c.args in
    Holds f n a.layout.now.cap a.layout.now.l m a.h.now → (r : Visit) → c.turn.result ≡ Ok r
    → Turn m a.layout.now.cap a.high a.low (of_row 0 a.axis.now).x (of_row 0 a.axis.now).z c.loop-cur.cur c.loop-cur.left r
turned c f n m holds r q =
    let a = c.args in
    let k = c.bucket-k.ensures in
    subst (λ (v : Result Visit Corrupt). IsOkAnd v (Turn m a.layout.now.cap a.high a.low (of_row 0 a.axis.now).x (of_row 0 a.axis.now).z c.loop-cur.cur c.loop-cur.left)) q
    (c.turn.ensures.turn f n m (record {
      holds = holds;
      count = sym holds.count;
      past = sym holds.cleared;
      picked = (c.loop-cur.invariant f n m holds).picked (omega arith);
      bucket = subst (λ (j : ℕ). j < a.layout.now.cap) k.0 k.1;
    }))

pub loop-cur-init : goal.loop-cur-init
loop-cur-init c =
    let a = c.args in
    let k = c.bucket-k.ensures in
    λ f n m holds. subst (λ (j : ℕ). Cursor m a.layout.now.cap a.high a.low (of_row 0 a.axis.now).x (of_row 0 a.axis.now).z (walk (phase1 m (label_of a.high a.low) (of_row 0 a.axis.now).x (of_row 0 a.axis.now).z) a.budget.0) (get_or a.h.now (2 + j) 0) a.budget) (sym k.0)
    (Cursor-begins m a.layout.now.cap a.high a.low _ _ _ f n a.layout.now.l a.h.now a.budget holds (subst (λ (j : ℕ). j < a.layout.now.cap) k.0 k.1) refl)

pub loop-cur-preserved : goal.loop-cur-preserved
loop-cur-preserved c = λ f n m holds. Cursor-goes m _ _ _ _ _ _ _ _ _ _ (c.loop-cur.invariant f n m holds) (turned (goal.at.loop-cur-preserved c).After-turn f n m holds _ (c.in_ok-next.was ∙ ap Ok c.in-On.is))

pub returns : goal.returns
returns c = λ f n m holds. ap Ok (Cursor-ends m _ _ _ _ _ _ _ _ (omega arith) (c.loop-cur.invariant f n m holds))
