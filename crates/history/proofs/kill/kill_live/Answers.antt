-- `history::kill::kill_live` meets its contract: the event dies first (`Gone`), which leaves the words of the lists, then its lists
-- (`ListsTo`), which leave the words of the events. Assumes nothing.
use Rattle.history.specs.Sizes.{form_of}
use Rattle.history.proofs.StayLaws.{counts_there}
use Rattle.history.proofs.KillLaws.{kill-Done}
use native.Mathlib.Omega.{arith}
use Rattle.history.proofs.kill.kill_live.Goals as goal

pub bounds-h-0 : goal.bounds-h-0
bounds-h-0 c =
    let a = c.args in
    omega (arith, counts_there (form_of a.layout.now.form) a.layout.now.n a.layout.now.cap a.layout.now.l a.h.now c.requires.0)

pub bounds-h-signature : goal.bounds-h-signature
bounds-h-signature c =
    let z = c.args.layout.now in
    omega (arith, counts_there (form_of z.form) z.n z.cap z.l c.args.h.now c.requires.0)

pub drop_event-requires : goal.drop_event-requires
drop_event-requires c =
    let a = c.args in
    (counts_there (form_of a.layout.now.form) a.layout.now.n a.layout.now.cap a.layout.now.l a.h.now c.requires.0, c.requires.0.planes, c.requires.1)

pub returns-clause-done : goal.returns-clause-done
returns-clause-done c =
    let a = c.args in
    let d = c.drop_event in
    let k = c.kill_lists in
    kill-Done (form_of a.layout.now.form) a.layout.now.n a.layout.now.cap a.layout.now.l a.id a.h.now d.new.h k.new.h d.result k.result d.ensures.done (rw c.signature.ensures at k.ensures.done)
