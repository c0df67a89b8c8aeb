-- `store::header::sizes_of` meets its contract: the header says them. Assumes nothing.
use Rattle.store.proofs.SizeLaws.{few_planes, frame_fits, room_small, read_few, Fit-read}
use Rattle.history.specs.Sizes.{form_of}
use Rattle.model.specs.Events.{words}
use Prim.Native.Nat.{◌+◌, ◌/◌}
use lib.ListN.{get_or}
use native.Mathlib.Omega.{arith}
use Rattle.store.proofs.header.sizes_of.Goals as goal

pub overflow_add-end : goal.overflow_add-end
unfolding words
overflow_add-end c =
    let few = read_few c.args.s.now c.requires in
    let n = get_or c.args.s.now 1 0 in
    omega (arith, frame_fits n few.0, few.0, room_small (form_of c.form_at-form.result) n (get_or c.args.s.now 3 0) ((n + 63) / 64) few.0 few.1 (few_planes n few.0))

pub returns : goal.returns
unfolding words
returns c = rw c.history_place-at.ensures (Fit-read c.args.s.now _ _ c.requires c.form_at-form.ensures c.history_room.ensures)
