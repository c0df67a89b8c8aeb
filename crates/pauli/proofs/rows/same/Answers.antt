-- `pauli::rows::same` meets its contract: every word passed is the same in both. Assumes nothing.
use mathlib.Core.Path.{◌≡◌, refl, sym, ap}
use mathlib.Core.Bool.{true≢false}
use lib.ListN.{length}
use lib.Seq.{ext_get_or}
use native.Mathlib.Omega.{arith}
use Rattle.pauli.specs.Rows.{of_row}
use Rattle.pauli.proofs.RowLaws.{row_words}
use Rattle.pauli.proofs.rows.same.Goals as goal

pub returns-then-a-i-clause-sets : goal.returns-then-a-i-clause-sets
returns-then-a-i-clause-sets c =
    let i = c.loop-i.i in
    λ long. (
      λ e. absurd (true≢false (sym e)),
      λ e. absurd (c.if-a-i.true (row_words _ _ long (λ j. (c.type_inv.a j).fits) (λ j. (c.type_inv.b j).fits) e i (omega arith))),
    )

pub returns-clause-words : goal.returns-clause-words
returns-clause-words c =
    let long : length c.args.a.now ≡ length c.args.b.now = omega arith in
    (λ t. ext_get_or 0 _ _ long (λ k h. c.loop-i.invariant k (omega arith)), λ e. refl)

pub returns-clause-sets : goal.returns-clause-sets
returns-clause-sets c = λ long. (λ t. ap (of_row 0) (ext_get_or 0 _ _ long (λ k h. c.loop-i.invariant k (omega arith))), λ e. refl)
