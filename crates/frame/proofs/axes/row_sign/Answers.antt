-- `frame::axes::row_sign` meets its contract. Assumes nothing.
use mathlib.Core.Path.{sym, ap, ◌∙◌, subst}
use Rattle.std.proofs.Common.{ℕ, Option, ℤ, IfSome}
use Rattle.model.specs.Pauli.{Pauli, sign}
use Rattle.model.specs.Demands.{IsSign}
use Rattle.pauli.specs.Rows.{answer, of_row}
use Rattle.frame.proofs.AxisLaws.{behind, row-behind, sign_or_none}
use Rattle.frame.proofs.axes.row_sign.Goals as goal

pub returns-clause-sign : goal.returns-clause-sign
returns-clause-sign c =
    let a = c.args in
    (λ l p e r. c.sign.ensures ∙ ap (λ (v : ℕ). answer (sign (of_row v (behind 1 a.row.now)))) c.in-Ok.ensures.phase.0 ∙ ap (λ (v : Pauli). answer (sign v)) (row-behind l a.row.now p e r))

pub returns-clause-one : goal.returns-clause-one
returns-clause-one c = subst (λ (r : Option ℤ). IfSome r IsSign) (sym c.sign.ensures) (sign_or_none _)
