-- `pauli::rows::sign` meets its contract. Assumes nothing.
use mathlib.Core.Path.{◌≡◌}
use Rattle.model.specs.Pauli.{quarter}
use Rattle.pauli.specs.Rows.{of_row}
use Rattle.pauli.proofs.Signs.{quartered, answer_plus, answer_minus, answer_none}
use native.Mathlib.Omega.{arith}
use Rattle.pauli.proofs.rows.sign.Goals as goal

-- the literals 1 and -1 are `pos 1` and `negsuc 0`
pub returns-in-0 : goal.returns-in-0
returns-in-0 c =
    let at = c.args in
    let q : quarter (of_row at.phase at.row.now) ≡ 0 = omega (arith, quartered at.row.now at.phase c.ys-y.result c.ys-y.ensures) in
    answer_plus _ q

pub returns-in-2 : goal.returns-in-2
returns-in-2 c =
    let at = c.args in
    let q : quarter (of_row at.phase at.row.now) ≡ 2 = omega (arith, quartered at.row.now at.phase c.ys-y.result c.ys-y.ensures) in
    answer_minus _ q

pub returns-in_default : goal.returns-in_default
returns-in_default c =
    let at = c.args in
    let e = quartered at.row.now at.phase c.ys-y.result c.ys-y.ensures in
    answer_none (of_row at.phase at.row.now) (omega (arith, e)) (omega (arith, e))
