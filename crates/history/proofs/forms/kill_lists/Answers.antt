-- `history::forms::kill_lists` meets its contract: the event's entry is dead in each list of its support, as `model`'s `kill` says. Assumes nothing.
use Rattle.model.specs.Events as model
use Rattle.history.specs.Sizes.{Sized}
use Rattle.history.proofs.FormLaws.{as_Scalar, as_Sliced, at_Scalar, at_Sliced, shr_none, Kills, kill_Scalars, kill_Sliceds, kill_taken}
use Rattle.history.proofs.ListPlaces.{scalar_room, scalar_live, scalar_kill, sliced_there, sliced_kills, sliced_kill}
use native.Mathlib.Omega.{arith}
use Rattle.history.proofs.forms.kill_lists.Goals as goal
use Rattle.history.proofs.forms.kill_lists.Goals.{In-Scalar, In-Sliced}

scalar : (c : In-Scalar) → let a = c.args in Sized model.scalar a.layout.now.n a.layout.now.cap a.layout.now.l a.h.now
scalar c = as_Scalar c.args.layout.now.form c.args.layout.now.n c.args.layout.now.cap c.args.layout.now.l c.args.h.now c.in-Scalar.is c.requires.0

sliced : (c : In-Sliced) → let a = c.args in Sized model.sliced a.layout.now.n a.layout.now.cap a.layout.now.l a.h.now
sliced c = as_Sliced c.args.layout.now.form c.args.layout.now.n c.args.layout.now.cap c.args.layout.now.l c.args.h.now c.in-Sliced.is c.requires.0

pub kill-requires-clause-room : goal.kill-requires-clause-room
kill-requires-clause-room c =
    let a = c.args in
    let z = scalar (goal.at.kill-requires-clause-room c).In-Scalar in
    let s = c.scalar_lists-lists in
    λ g e. (scalar_room a.layout.now.n a.layout.now.cap a.layout.now.l a.h.now z s.result s.ensures g e, scalar_live a.layout.now.n a.layout.now.cap a.layout.now.l a.h.now z s.result s.ensures a.events c.requires.1)

pub overflow_shr-sig : goal.overflow_shr-sig
overflow_shr-sig c = omega (arith, (sliced c).narrow.0)

pub returns-then-sig-layout-ne0-clause-done : goal.returns-then-sig-layout-ne0-clause-done
returns-then-sig-layout-ne0-clause-done c =
    let a = c.args in
    let z = sliced (goal.at.returns-then-sig-layout-ne0-clause-done c).In-Sliced in
    λ m held count lv. absurd (kill_taken a.layout.now.n a.layout.now.cap a.layout.now.l m a.id a.sig a.h.now z.narrow.0 z.narrow.1 c.if-sig-layout-ne0.true lv)

pub sliced_lists-lists-requires : goal.sliced_lists-lists-requires
sliced_lists-lists-requires c =
    let z = sliced (goal.at.sliced_lists-lists-requires c).In-Sliced in
    (z.planes, z.narrow.0)

pub kill-requires-in-Sliced-clause-room : goal.kill-requires-in-Sliced-clause-room
kill-requires-in-Sliced-clause-room c =
    let a = c.args in
    sliced_kills a.layout.now.n a.layout.now.cap a.layout.now.l a.h.now (sliced (goal.at.kill-requires-in-Sliced-clause-room c).In-Sliced) c.sliced_lists-lists.result c.sliced_lists-lists.ensures a.events c.requires.1

pub kill-requires-in-Sliced-clause-there : goal.kill-requires-in-Sliced-clause-there
kill-requires-in-Sliced-clause-there c =
    let a = c.args in
    sliced_there a.layout.now.n a.layout.now.cap a.layout.now.l a.h.now (sliced (goal.at.kill-requires-in-Sliced-clause-there c).In-Sliced) c.sliced_lists-lists.result c.sliced_lists-lists.ensures
    a.sig (shr_none a.layout.now.n a.sig c.if-sig-layout-ne0.false)

pub returns-in-Scalar-clause-done : goal.returns-in-Scalar-clause-done
returns-in-Scalar-clause-done c =
    let a = c.args in
    let z = scalar (goal.at.returns-in-Scalar-clause-done c).In-Scalar in
    let k = c.kill in
    at_Scalar (λ (f : model.Form). Kills f a.layout.now.n a.layout.now.cap a.layout.now.l a.h.now k.new.h a.id a.sig a.events k.result) a.layout.now.form c.in-Scalar.is
    (kill_Scalars a.layout.now.n a.layout.now.cap a.layout.now.l a.h.now k.new.h a.id a.sig a.events k.result
    (scalar_kill a.layout.now.n a.layout.now.cap a.layout.now.l a.h.now z c.scalar_lists-lists.result c.scalar_lists-lists.ensures a.sig k.new.h k.result a.events c.requires.1 k.ensures.done))

pub returns-else-sig-layout-ne0-clause-done : goal.returns-else-sig-layout-ne0-clause-done
returns-else-sig-layout-ne0-clause-done c =
    let a = c.args in
    let z = sliced (goal.at.returns-else-sig-layout-ne0-clause-done c).In-Sliced in
    let k = c.kill-in-Sliced in
    at_Sliced (λ (f : model.Form). Kills f a.layout.now.n a.layout.now.cap a.layout.now.l a.h.now k.new.h a.id a.sig a.events k.result) a.layout.now.form c.in-Sliced.is
    (kill_Sliceds a.layout.now.n a.layout.now.cap a.layout.now.l a.h.now k.new.h a.id a.sig a.events k.result z.narrow.0 z.narrow.1
    (sliced_kill a.layout.now.n a.layout.now.cap a.layout.now.l a.h.now z c.sliced_lists-lists.result c.sliced_lists-lists.ensures a.sig (shr_none a.layout.now.n a.sig c.if-sig-layout-ne0.false) k.new.h k.result a.id a.events c.requires.1 k.ensures.done))
