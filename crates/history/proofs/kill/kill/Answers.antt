-- `history::kill::kill` meets its contract: a read tells that the event is a live rotation, and it dies. Assumes nothing.
use mathlib.Core.Path.{◌≡◌, refl, ap, ◌∙◌}
use mathlib.Core.Bool.{not}
use Rattle.std.proofs.Common.{Ok}
use Rattle.model.specs.Events.{State}
use Rattle.model.specs.Calls.{not_killable}
use Rattle.model.proofs.Members.{clash}
use Rattle.history.specs.Words.{Holds, Sane}
use Rattle.history.specs.Sizes.{form_of}
use Rattle.history.proofs.StayLaws.{counts_there}
use Rattle.history.proofs.KillLaws.{kill_Dying, kill_past, told_none, told_some, no_err}
use Rattle.history.proofs.kill.kill.Goals as goal
use Rattle.history.proofs.kill.kill.Goals.{In-Some}

-- the rotation read can be killed exactly if it is live
told : (c : In-Some) (m : State) → let a = c.args in Holds (form_of a.layout.now.form) a.layout.now.n a.layout.now.cap a.layout.now.l m a.h.now → Sane m → not_killable m.events a.id ≡ not c.in-Some.rotation.live
told c m holds sane =
    let a = c.args in
    let r = c.read in
    told_some m.events a.id r.result (r.ensures.nothing (form_of a.layout.now.form) a.layout.now.n m holds sane) (r.ensures.says (form_of a.layout.now.form) a.layout.now.n m holds sane) c.in-Some.rotation (c.in_ok-rotation.was ∙ ap Ok c.in-Some.is)

pub returns-then-layout-id-clause-done : goal.returns-then-layout-id-clause-done
returns-then-layout-id-clause-done c = λ m holds sane e. absurd (kill_past m.events c.args.layout.now.cap c.args.id holds.room c.if-layout-id.true e)

pub read-requires : goal.read-requires
read-requires c =
    let a = c.args in
    (counts_there (form_of a.layout.now.form) a.layout.now.n a.layout.now.cap a.layout.now.l a.h.now c.requires, c.requires.planes)

pub returns-in_err-kill_live-in-Some-clause-refused : goal.returns-in_err-kill_live-in-Some-clause-refused
returns-in_err-kill_live-in-Some-clause-refused c = λ m holds sane e.
    clash (not_killable m.events c.args.id) e (told (goal.at.returns-in_err-kill_live-in-Some-clause-refused c).In-Some m holds sane ∙ ap not c.if-rotation.true)

pub returns-in_err-kill_live-in-Some-clause-done : goal.returns-in_err-kill_live-in-Some-clause-done
returns-in_err-kill_live-in-Some-clause-done c = λ m holds sane e.
    absurd (no_err (c.kill_live.ensures.done m holds sane (kill_Dying m.events c.args.id e)).0 c.in_err-kill_live-in-Some.was)

pub returns-in_default-clause-done : goal.returns-in_default-clause-done
returns-in_default-clause-done c = λ m holds sane e.
    clash (not_killable m.events c.args.id) (told (goal.at.returns-in_default-clause-done c).In-Some m holds sane ∙ ap not c.if-rotation.false) e

pub returns-in_default-2-clause-done : goal.returns-in_default-2-clause-done
returns-in_default-2-clause-done c =
    let a = c.args in
    let r = c.read in
    λ m holds sane e. absurd (told_none m.events a.id r.result (r.ensures.nothing (form_of a.layout.now.form) a.layout.now.n m holds sane) (r.ensures.says (form_of a.layout.now.form) a.layout.now.n m holds sane) (c.in_ok-rotation.was ∙ ap Ok c.in_default.is) e)

pub returns-clause-refused : goal.returns-clause-refused
returns-clause-refused c = λ m holds sane e.
    clash (not_killable m.events c.args.id) e (told (goal.at.returns-clause-refused c).In-Some m holds sane ∙ ap not c.if-rotation.true)

pub returns-clause-done : goal.returns-clause-done
returns-clause-done c = λ m holds sane e. (refl, (c.kill_live.ensures.done m holds sane (kill_Dying m.events c.args.id e)).1)
