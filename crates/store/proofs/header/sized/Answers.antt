-- `store::header::sized` meets its contract: each test passes on every store that holds a state. Assumes nothing.
use mathlib.Core.Path.{refl}
use Prim.Native.Nat.{◌≤◌}
use lib.ListN.{get_or}
use Rattle.history.specs.Sizes.{form_of}
use Rattle.store.specs.Checks.{sizes}
use Rattle.store.proofs.SizeLaws.{no_event_lem, many_events, many_steps, history_missing, Framing-planes, fit_of, sound_of, frame_small, room_small}
use native.Mathlib.Omega.{arith}
use Rattle.store.proofs.header.sized.Goals as goal
use Rattle.store.proofs.header.sized.Goals.{Start, then-cap-eq0-via-then-cap-eq0, then-cap-eq0-via-else-cap-eq0+then-cap-gt16777216, then-cap-eq0-via-else-cap-eq0+else-cap-gt16777216+then-allowance-gt1048576}

-- a plane's words are few
planes : (c : Start) → c.args.l ≤ 362
planes c = Framing-planes c.args.n c.args.l c.args.s.now c.requires.0

pub returns-then-cap-eq0 : goal.returns-then-cap-eq0
returns-then-cap-eq0 c =
    let s = c.args.s.now in (
      c.requires.0.enough,
      λ m h. elim c.then-cap-eq0.branch [
        | then-cap-eq0-via-then-cap-eq0 w ↦ no_event_lem s m h w.if-cap-eq0.true
        | then-cap-eq0-via-else-cap-eq0+then-cap-gt16777216 w ↦ many_events s m h w.if-cap-gt16777216.true
        | then-cap-eq0-via-else-cap-eq0+else-cap-gt16777216+then-allowance-gt1048576 w ↦ many_steps s m h w.if-allowance-gt1048576.true
      ],
    )

pub history_place-requires : goal.history_place-requires
history_place-requires c = (c.requires.0.few, planes (goal.at.history_place-requires c).Start)

pub history_room-requires : goal.history_room-requires
history_room-requires c = (c.requires.0.few, planes (goal.at.history_room-requires c).Start, c.if-cap-gt16777216.false)

pub overflow_add-end : goal.overflow_add-end
overflow_add-end c =
    let s = (goal.at.overflow_add-end c).Start in
    omega (arith, frame_small c.args.n c.args.l c.requires.0.few (planes s), c.requires.0.few, room_small (form_of c.args.form) c.args.n (get_or c.args.s.now 3 0) c.args.l c.requires.0.few c.if-cap-gt16777216.false (planes s))

pub returns-then-size-end : goal.returns-then-size-end
returns-then-size-end c =
    let a = c.args in
    (c.requires.0.enough, λ m h. history_missing a.s.now m h a.n a.l (get_or a.s.now 3 0) (form_of a.form) c.requires.0 c.requires.1 refl (omega arith))

pub returns : goal.returns
returns c =
    let a = c.args in
    sound_of a.s.now (sizes a.n a.l a.form (get_or a.s.now 3 0) (get_or a.s.now 4 0) _ _)
    (fit_of a.s.now _ c.requires.0 c.requires.1 c.requires.2 refl refl c.if-cap-eq0.false c.if-cap-gt16777216.false c.if-allowance-gt1048576.false c.history_room.result c.history_room.ensures refl refl (omega arith))
