-- `seeking::looks::sought` meets its contract: `history` looks for the axis taken with the sign +1, and what it saw is turned by the row's. Assumes nothing.
use mathlib.Core.Logic.{inl}
use mathlib.Core.Path.{refl}
use Rattle.frame.specs.Axes.{kind_of}
use Rattle.store.specs.Promises.{told_look}
use Rattle.store.proofs.LentLaws.{lent-Sized}
use Rattle.seeking.proofs.SeekLaws.{row-length, sought_seen, sought_bad}
use Rattle.seeking.proofs.looks.sought.Goals as goal

pub look-requires : goal.look-requires
look-requires c = (lent-Sized c.args.z.now c.args.s.now c.requires.0, row-length c.args.z.now.l c.args.row.now c.requires.2, inl refl)

pub returns-in_err-seen : goal.returns-in_err-seen
returns-in_err-seen c =
    let a = c.args in
    let t = c.label-high in
    let k = c.look in
    λ m held row. absurd (sought_bad a.z.now a.s.now c.requires.0 (kind_of a.kind) a.q c.requires.1 a.row.now c.requires.2 t.result t.ensures k.result k.ensures _ c.in_err-seen.was m held row)

pub returns : goal.returns
returns c =
    let a = c.args in
    let t = c.label-high in
    let k = c.look in
    sought_seen a.z.now a.s.now c.requires.0 (kind_of a.kind) a.q c.requires.1 a.row.now c.requires.2 t.result t.ensures k.result k.ensures _ c.in_ok-seen.was (told_look c.sight.result) c.sight.ensures
