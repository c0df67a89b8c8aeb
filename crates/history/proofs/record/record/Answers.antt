-- `history::record::record` meets its contract: the words of the event, then those of its lists, then the count (RecordLaws). Assumes nothing.
use mathlib.Core.Path.{ap}
use Rattle.std.proofs.Common.{Ok}
use Rattle.history.specs.Sizes.{form_of}
use Rattle.history.proofs.StayLaws.{counts_there}
use Rattle.history.proofs.RecordLaws.{record_goes, record_ends}
use Rattle.history.proofs.KillLaws.{no_err}
use native.Mathlib.Omega.{arith}
use Rattle.history.proofs.record.record.Goals as goal

pub bounds-h-0 : goal.bounds-h-0
bounds-h-0 c =
    let a = c.args in
    omega (arith, counts_there (form_of a.layout.now.form) a.layout.now.n a.layout.now.cap a.layout.now.l a.h.now c.requires.0)

pub put_event-requires : goal.put_event-requires
put_event-requires c =
    let a = c.args in
    (counts_there (form_of a.layout.now.form) a.layout.now.n a.layout.now.cap a.layout.now.l a.h.now c.requires.0, c.requires.0.planes, omega arith, c.requires.1, c.requires.2)

pub returns-in_err-push_lists-clause-done : goal.returns-in_err-push_lists-clause-done
returns-in_err-push_lists-clause-done c =
    let a = c.args in
    let sg = c.signature-sig in
    let put = c.put_event in
    let lists = c.push_lists in
    λ m e held sane room new. absurd (no_err (record_goes (form_of a.layout.now.form) a.layout.now.n a.layout.now.cap a.layout.now.l sg.result a.axis.now a.body a.h.now put.new.h lists.new.h lists.result sg.ensures put.ensures.stored lists.ensures.done m e held sane room new) c.in_err-push_lists.was)

pub bounds-h-0-2 : goal.bounds-h-0-2
bounds-h-0-2 c =
    let a = c.args in
    let put = c.put_event in
    let lists = c.push_lists in
    omega (arith, lists.ensures.long, put.ensures.long, counts_there (form_of a.layout.now.form) a.layout.now.n a.layout.now.cap a.layout.now.l a.h.now c.requires.0)

pub returns-clause-done : goal.returns-clause-done
returns-clause-done c =
    let a = c.args in
    let sg = c.signature-sig in
    let put = c.put_event in
    let lists = c.push_lists in
    λ m e held sane room new. let ends = record_ends (form_of a.layout.now.form) a.layout.now.n a.layout.now.cap a.layout.now.l sg.result a.axis.now a.body a.h.now put.new.h lists.new.h lists.result sg.ensures put.ensures.stored lists.ensures.done m e held sane room new in
    (ap Ok ends.0, ends.1)
