-- `store::opening::begin` meets its contract: the header, then the frames, then the history. Assumes nothing.
use mathlib.Core.Path.{◌≡◌}
use Prim.Native.Nat.{◌+◌, ◌-◌, ◌/◌}
use lib.ListN.{length}
use Rattle.history.specs.Sizes.{form_of}
use Rattle.history.specs.Words.{history_room}
use Rattle.store.specs.Stores.{frame_size}
use Rattle.store.proofs.OpenLaws.{Begins, begins, lent_frames_lem, middle_long, lent_history, begun}
use native.Mathlib.Omega.{arith}
use Rattle.store.proofs.opening.begin.Goals as goal
use Rattle.store.proofs.opening.begin.Goals.{Start}

-- the sizes are those of an accepted opening
sizes : (c : Start) → Begins c.args.n c.args.cap (form_of c.args.form) c.args.labels.now (length c.args.s.now)
sizes c = begins c.args.n c.args.cap c.args.allowance (form_of c.args.form) c.args.labels.now (length c.args.s.now) c.requires

pub overflow_add-l : goal.overflow_add-l
overflow_add-l c = omega (arith, (sizes (goal.at.overflow_add-l c).Start).few)

pub history_place-at-requires : goal.history_place-at-requires
history_place-at-requires c = let z = sizes (goal.at.history_place-at-requires c).Start in (z.few, z.planes)

pub history_room-requires : goal.history_room-requires
history_room-requires c = let z = sizes (goal.at.history_room-requires c).Start in (z.few, z.planes, z.few_events)

pub overflow_add-end : goal.overflow_add-end
overflow_add-end c = let z = sizes (goal.at.overflow_add-end c).Start in omega (arith, z.few, z.frame, z.room)

pub stamp-requires : goal.stamp-requires
stamp-requires c = omega (arith, (sizes (goal.at.stamp-requires c).Start).fits)

pub slice_bounds-fresh-end : goal.slice_bounds-fresh-end
slice_bounds-fresh-end c = omega (arith, (sizes (goal.at.slice_bounds-fresh-end c).Start).fits, c.stamp.ensures.same_length)

pub fresh-requires : goal.fresh-requires
fresh-requires c =
    let a = c.args in
    let z = sizes (goal.at.fresh-requires c).Start in
    (lent_frames_lem a.n ((a.n + 63) / 64) c.history_place-at.result c.stamp.new.s c.history_place-at.ensures (omega (arith, z.fits, c.stamp.ensures.same_length)), z.labels, z.within)

pub slice_bounds-fresh-end-2 : goal.slice_bounds-fresh-end-2
slice_bounds-fresh-end-2 c =
    let a = c.args in
    let z = sizes (goal.at.slice_bounds-fresh-end-2 c).Start in
    omega (arith, z.fits, c.stamp.ensures.same_length, middle_long a.n ((a.n + 63) / 64) c.history_place-at.result c.stamp.new.s c.fresh.new.s c.history_place-at.ensures (omega (arith, z.fits, c.stamp.ensures.same_length)) c.fresh.ensures.rows.long)

pub fresh-requires-2 : goal.fresh-requires-2
fresh-requires-2 c =
    let a = c.args in
    let z = sizes (goal.at.fresh-requires-2 c).Start in
    lent_history a.n a.cap (form_of a.form) a.labels.now (length a.s.now) c.history_place-at.result (c.history_place-at.result + c.history_room.result) _ z c.history_place-at.ensures (omega arith)
    (omega (arith, z.fits, c.stamp.ensures.same_length, middle_long a.n ((a.n + 63) / 64) c.history_place-at.result c.stamp.new.s c.fresh.new.s c.history_place-at.ensures (omega (arith, z.fits, c.stamp.ensures.same_length)) c.fresh.ensures.rows.long))

pub returns : goal.returns
returns c =
    let a = c.args in
    let h = c.history_room in
    let p = c.history_place-at in
    let first : p.result - 14 ≡ frame_size a.n ((a.n + 63) / 64) = omega arith in
    let rest : p.result + h.result - p.result ≡ history_room (form_of a.form) a.n a.cap ((a.n + 63) / 64) = omega (arith, h.ensures) in
    begun a.n a.cap a.allowance (form_of a.form) a.labels.now a.s.now c.stamp.new.s c.fresh.new.s c.fresh-2.new.h (p.result - 14) (p.result + h.result - p.result) p.result p.ensures first rest c.requires
    c.stamp.ensures c.fresh.ensures c.fresh-2.ensures

pub invariant_of-fresh : goal.invariant_of-fresh
invariant_of-fresh c = record { few = (sizes (goal.at.invariant_of-fresh c).Start).few_events }
