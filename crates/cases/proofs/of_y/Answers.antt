-- `cases::of_y` meets its contract. Assumes nothing.
use Rattle.cases.proofs.SeenLaws.{is_y, no_x, no_z}
use Rattle.cases.proofs.of_y.Goals as goal
use Rattle.cases.proofs.of_y.Goals.{else-row-eq1-via-then-row-eq1+else-row-eq1-2, else-row-eq1-via-else-row-eq1}

pub returns-then-row-eq1-2 : goal.returns-then-row-eq1-2
returns-then-row-eq1-2 c = λ f k held.
    let row = c.axis_row-row in
    let sign = c.row_sign in
    is_y row.result.now _ (row.ensures.row f k held) sign.result c.number.result c.if-row-eq1.true c.if-row-eq1-2.true
    (sign.ensures.sign 1 _ row.ensures.long (row.ensures.row f k held)) c.number.ensures

pub returns-else-row-eq1 : goal.returns-else-row-eq1
returns-else-row-eq1 c = λ f k held.
    let row = c.axis_row-row in
    elim c.else-row-eq1.branch [
      | else-row-eq1-via-then-row-eq1+else-row-eq1-2 w ↦ no_z row.result.now _ (row.ensures.row f k held) w.if-row-eq1.true w.if-row-eq1-2.false
      | else-row-eq1-via-else-row-eq1 w ↦ no_x row.result.now _ (row.ensures.row f k held) w.if-row-eq1.false
    ]
