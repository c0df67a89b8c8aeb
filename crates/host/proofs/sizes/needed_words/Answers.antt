-- `host::sizes::needed_words` meets its contract: by the number of an opening. Assumes nothing.
use Rattle.host.proofs.Needing.{refused_need, too_many, few_events, need_of, number_none, number_some}
use Rattle.store.proofs.SizeLaws.{few_planes, frame_fits, room_small}
use Rattle.history.specs.Sizes.{form_of}
use Rattle.model.specs.Events.{words}
use mathlib.Core.Path.{sym}
use Prim.Native.Nat.{◌+◌, ◌/◌, ◌≤◌, ◌^◌}
use native.Mathlib.Omega.{arith}
use Rattle.host.proofs.sizes.needed_words.Goals as goal
use Rattle.host.proofs.sizes.needed_words.Goals.{Else-is_err}

pub returns-then-n-gt23168 : goal.returns-then-n-gt23168
returns-then-n-gt23168 c = too_many c.args.n c.args.events (form_of c.args.form) c.if-n-gt23168.true

pub returns-then-is_err : goal.returns-then-is_err
returns-then-is_err c = refused_need c.args.n c.args.events (form_of c.args.form) _ c.check_opening.ensures (number_some c.check_opening.result (sym c.if-is_err.ensures.value))

-- the room for events is in its range
few : (c : Else-is_err) → c.args.events ≤ 2 ^ 24
few c = few_events c.args.n c.args.events (form_of c.args.form) _ c.check_opening.ensures (number_none c.check_opening.result (sym c.if-is_err.ensures.value))

pub history_room-requires : goal.history_room-requires
unfolding words
history_room-requires c = (c.if-n-gt23168.false, few_planes c.args.n c.if-n-gt23168.false, few (goal.at.history_room-requires c).Else-is_err)

pub overflow_add-result : goal.overflow_add-result
unfolding words
overflow_add-result c =
    let a = c.args in
    omega (arith, frame_fits a.n c.if-n-gt23168.false, room_small (form_of a.form) a.n a.events ((a.n + 63) / 64) c.if-n-gt23168.false (few (goal.at.overflow_add-result c).Else-is_err) (few_planes a.n c.if-n-gt23168.false))

pub returns : goal.returns
unfolding words
returns c = rw c.history_place.ensures (need_of c.args.n c.args.events (form_of c.args.form) _ c.check_opening.ensures (number_none c.check_opening.result (sym c.if-is_err.ensures.value)) _ c.history_room.ensures)
