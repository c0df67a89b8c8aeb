-- `history::looks::look` meets its contract, by how its two phases ended. Assumes nothing.
use mathlib.Core.Path.{sym, ◌∙◌}
use Rattle.pauli.specs.Rows.{of_row}
use Rattle.history.specs.Sizes.{form_of}
use Rattle.history.specs.Phases.{label_of}
use Rattle.history.proofs.ScanForm.{counts_inside}
use Rattle.history.proofs.LookLaws.{sign_bits, Partner-bits, held_lists, held_scan, ended, look_free, look_out, look_blocked, look_dry, look_found, partner_there}
use native.Mathlib.Omega.{arith}
use Rattle.history.proofs.looks.look.Goals as goal
use Rattle.history.proofs.looks.look.Goals.{in-Nothing, in-Out, in-Match+else-layout-events+in_ok-rest-in-Match+in-Clear+in_ok-partner-in-Clear, in-Match+else-layout-events+in_ok-rest-in-Match+in-Blocked, in-Match+else-layout-events+in_ok-rest-in-Match+in-Out-2}

pub candidate-requires : goal.candidate-requires
candidate-requires c =
    let a = c.args in
    (c.requires.0.some, omega (arith, counts_inside (form_of a.layout.now.form) a.layout.now.n a.layout.now.cap a.layout.now.l a.h.now c.requires.0), c.requires.1)

pub bounds-h-0 : goal.bounds-h-0
bounds-h-0 c =
    let a = c.args in
    omega (arith, counts_inside (form_of a.layout.now.form) a.layout.now.n a.layout.now.cap a.layout.now.l a.h.now c.requires.0)

pub partner-requires : goal.partner-requires
partner-requires c =
    let a = c.args in
    (omega (arith, counts_inside (form_of a.layout.now.form) a.layout.now.n a.layout.now.cap a.layout.now.l a.h.now c.requires.0), sign_bits a.sign c.requires.2)

pub returns-in_err-partner-in-Clear : goal.returns-in_err-partner-in-Clear
returns-in_err-partner-in-Clear c =
    let a = c.args in
    λ m holds sane given x_small z_small.
    absurd (partner_there m a.sign (label_of a.high a.low) (of_row 0 a.axis.now).x (of_row 0 a.axis.now).z a.allowance given
    c.in_ok-left.field-0 (sym c.in_ok-left.was ∙ c.candidate.ensures (form_of a.layout.now.form) a.layout.now.n m holds)
    c.in-Match.id c.in-Match.left c.in-Match.is
    c.in_ok-rest-in-Match.field-0 (sym c.in_ok-rest-in-Match.was ∙ c.scan_lists.ensures m (held_lists _ _ _ _ m a.h.now holds sane) (held_scan _ _ _ _ m a.h.now holds) x_small z_small)
    (form_of a.layout.now.form) a.layout.now.n a.layout.now.cap a.layout.now.l a.h.now holds sane c.partner.result (Partner-bits a.h.now a.layout.now.cap c.in-Match.id a.sign c.partner.result c.requires.2 c.partner.ensures)
    _ c.in_err-partner-in-Clear.was)

pub returns : goal.returns
returns c =
    let a = c.args in
    let kept = c.match-branch-2.found in
    let spent = c.saturating_sub-steps in
    λ m holds sane given x_small z_small.
    elim c.match-branch-2.branch [
      | in-Nothing w ↦ ended a.allowance kept _ spent.result _ spent.ensures w.found-is
          (look_free m a.sign (label_of a.high a.low) (of_row 0 a.axis.now).x (of_row 0 a.axis.now).z a.allowance given
          c.in_ok-left.field-0 (sym c.in_ok-left.was ∙ c.candidate.ensures (form_of a.layout.now.form) a.layout.now.n m holds) w.in-Nothing.left w.in-Nothing.is)
      | in-Out w ↦ ended a.allowance kept _ spent.result _ spent.ensures w.found-is
          (look_out m a.sign (label_of a.high a.low) (of_row 0 a.axis.now).x (of_row 0 a.axis.now).z a.allowance given
          c.in_ok-left.field-0 (sym c.in_ok-left.was ∙ c.candidate.ensures (form_of a.layout.now.form) a.layout.now.n m holds) w.in-Out.left w.in-Out.is)
      | in-Match+else-layout-events+in_ok-rest-in-Match+in-Clear+in_ok-partner-in-Clear w ↦ ended a.allowance kept _ spent.result _ spent.ensures w.found-is
          (look_found m a.sign (label_of a.high a.low) (of_row 0 a.axis.now).x (of_row 0 a.axis.now).z a.allowance given
          c.in_ok-left.field-0 (sym c.in_ok-left.was ∙ c.candidate.ensures (form_of a.layout.now.form) a.layout.now.n m holds) w.in-Match.id w.in-Match.left w.in-Match.is
          w.in_ok-rest-in-Match.field-0 (sym w.in_ok-rest-in-Match.was ∙ w.scan_lists.ensures m (held_lists _ _ _ _ m a.h.now holds sane) (held_scan _ _ _ _ m a.h.now holds) x_small z_small)
          (form_of a.layout.now.form) a.layout.now.n a.layout.now.cap a.layout.now.l a.h.now holds sane w.partner.result (Partner-bits a.h.now a.layout.now.cap w.in-Match.id a.sign w.partner.result c.requires.2 w.partner.ensures)
          w.in-Clear.rest _ w.in-Clear.is w.in_ok-partner-in-Clear.was)
      | in-Match+else-layout-events+in_ok-rest-in-Match+in-Blocked w ↦ ended a.allowance kept _ spent.result _ spent.ensures w.found-is
          (look_blocked m a.sign (label_of a.high a.low) (of_row 0 a.axis.now).x (of_row 0 a.axis.now).z a.allowance given
          c.in_ok-left.field-0 (sym c.in_ok-left.was ∙ c.candidate.ensures (form_of a.layout.now.form) a.layout.now.n m holds) w.in-Match.id w.in-Match.left w.in-Match.is
          w.in_ok-rest-in-Match.field-0 (sym w.in_ok-rest-in-Match.was ∙ w.scan_lists.ensures m (held_lists _ _ _ _ m a.h.now holds sane) (held_scan _ _ _ _ m a.h.now holds) x_small z_small)
          w.in-Blocked.rest w.in-Blocked.is)
      | in-Match+else-layout-events+in_ok-rest-in-Match+in-Out-2 w ↦ ended a.allowance kept _ spent.result _ spent.ensures w.found-is
          (look_dry m a.sign (label_of a.high a.low) (of_row 0 a.axis.now).x (of_row 0 a.axis.now).z a.allowance given
          c.in_ok-left.field-0 (sym c.in_ok-left.was ∙ c.candidate.ensures (form_of a.layout.now.form) a.layout.now.n m holds) w.in-Match.id w.in-Match.left w.in-Match.is
          w.in_ok-rest-in-Match.field-0 (sym w.in_ok-rest-in-Match.was ∙ w.scan_lists.ensures m (held_lists _ _ _ _ m a.h.now holds sane) (held_scan _ _ _ _ m a.h.now holds) x_small z_small)
          w.in-Out-2.rest w.in-Out-2.is)
    ]
