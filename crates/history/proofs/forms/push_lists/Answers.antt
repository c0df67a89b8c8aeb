-- `history::forms::push_lists` meets its contract: the event goes to the end of each list that `model`'s `push` gives it to. Assumes nothing.
use lib.ListN.{get_or}
use lib.Bits.{bit_or}
use Rattle.model.specs.Events as model
use Rattle.history.specs.Sizes.{Sized}
use Rattle.history.proofs.FormLaws.{as_Scalar, as_Sliced, at_Scalar, at_Sliced, shr_none, or_left, or_right, Pushes, push_Scalars, push_Sliceds, push_taken}
use Rattle.history.proofs.ListPlaces.{scalar_room, scalar_push, sliced_there, sliced_takes, sliced_push}
use native.Mathlib.Omega.{arith}
use Rattle.history.proofs.forms.push_lists.Goals as goal
use Rattle.history.proofs.forms.push_lists.Goals.{In-Scalar, In-Sliced}

scalar : (c : In-Scalar) → let a = c.args in Sized model.scalar a.layout.now.n a.layout.now.cap a.layout.now.l a.h.now
scalar c = as_Scalar c.args.layout.now.form c.args.layout.now.n c.args.layout.now.cap c.args.layout.now.l c.args.h.now c.in-Scalar.is c.requires.0

sliced : (c : In-Sliced) → let a = c.args in Sized model.sliced a.layout.now.n a.layout.now.cap a.layout.now.l a.h.now
sliced c = as_Sliced c.args.layout.now.form c.args.layout.now.n c.args.layout.now.cap c.args.layout.now.l c.args.h.now c.in-Sliced.is c.requires.0

pub push-requires-clause-room : goal.push-requires-clause-room
push-requires-clause-room c =
    let a = c.args in
    scalar_room a.layout.now.n a.layout.now.cap a.layout.now.l a.h.now (scalar (goal.at.push-requires-clause-room c).In-Scalar) c.scalar_lists-lists.result c.scalar_lists-lists.ensures

pub bounds-axis-0 : goal.bounds-axis-0
bounds-axis-0 c = omega (arith, (sliced (goal.at.bounds-axis-0 c).In-Sliced).narrow.1)

pub bounds-axis-1 : goal.bounds-axis-1
bounds-axis-1 c = omega (arith, (sliced (goal.at.bounds-axis-1 c).In-Sliced).narrow.1)

pub overflow_shr-set : goal.overflow_shr-set
overflow_shr-set c = omega (arith, (sliced (goal.at.overflow_shr-set c).In-Sliced).narrow.0)

pub returns-then-set-layout-ne0-clause-done : goal.returns-then-set-layout-ne0-clause-done
returns-then-set-layout-ne0-clause-done c =
    let a = c.args in
    λ m e held count room new. absurd (push_taken a.layout.now.n a.layout.now.l a.axis.now a.sig e (sliced (goal.at.returns-then-set-layout-ne0-clause-done c).In-Sliced).narrow.1 c.requires.1 c.if-set-layout-ne0.true new)

pub sliced_lists-lists-requires : goal.sliced_lists-lists-requires
sliced_lists-lists-requires c =
    let z = sliced (goal.at.sliced_lists-lists-requires c).In-Sliced in
    (z.planes, z.narrow.0)

pub push-requires-in-Sliced-clause-room : goal.push-requires-in-Sliced-clause-room
push-requires-in-Sliced-clause-room c =
    let a = c.args in
    let x = get_or a.axis.now 0 0 in
    let z = get_or a.axis.now 1 0 in
    sliced_takes a.layout.now.n a.layout.now.cap a.layout.now.l a.h.now (sliced (goal.at.push-requires-in-Sliced-clause-room c).In-Sliced) c.sliced_lists-lists.result c.sliced_lists-lists.ensures
    a.axis.now c.requires.1 (or_left a.layout.now.n x z c.if-set-layout-ne0.false) (or_right a.layout.now.n x z c.if-set-layout-ne0.false)

pub push-requires-in-Sliced-clause-there : goal.push-requires-in-Sliced-clause-there
push-requires-in-Sliced-clause-there c =
    let a = c.args in
    let set = bit_or (get_or a.axis.now 0 0) (get_or a.axis.now 1 0) in
    sliced_there a.layout.now.n a.layout.now.cap a.layout.now.l a.h.now (sliced (goal.at.push-requires-in-Sliced-clause-there c).In-Sliced) c.sliced_lists-lists.result c.sliced_lists-lists.ensures
    set (shr_none a.layout.now.n set c.if-set-layout-ne0.false)

pub returns-in-Scalar-clause-done : goal.returns-in-Scalar-clause-done
returns-in-Scalar-clause-done c =
    let a = c.args in
    let z = scalar (goal.at.returns-in-Scalar-clause-done c).In-Scalar in
    at_Scalar (λ (f : model.Form). Pushes f a.layout.now.n a.layout.now.cap a.layout.now.l a.h.now c.push.new.h a.axis.now a.id a.sig c.push.result) a.layout.now.form c.in-Scalar.is
    (push_Scalars a.layout.now.n a.layout.now.cap a.layout.now.l a.h.now c.push.new.h a.axis.now a.id a.sig c.push.result
    (scalar_push a.layout.now.n a.layout.now.cap a.layout.now.l a.h.now z c.scalar_lists-lists.result c.scalar_lists-lists.ensures a.sig c.push.new.h c.push.result a.id c.push.ensures.done))

pub returns-else-set-layout-ne0-clause-done : goal.returns-else-set-layout-ne0-clause-done
returns-else-set-layout-ne0-clause-done c =
    let a = c.args in
    let x = get_or a.axis.now 0 0 in
    let y = get_or a.axis.now 1 0 in
    let p = c.push-in-Sliced in
    let z = sliced (goal.at.returns-else-set-layout-ne0-clause-done c).In-Sliced in
    at_Sliced (λ (f : model.Form). Pushes f a.layout.now.n a.layout.now.cap a.layout.now.l a.h.now p.new.h a.axis.now a.id a.sig p.result) a.layout.now.form c.in-Sliced.is
    (push_Sliceds a.layout.now.n a.layout.now.cap a.layout.now.l a.h.now p.new.h a.axis.now a.id a.sig p.result z.narrow.1 c.requires.1
    (sliced_push a.layout.now.n a.layout.now.cap a.layout.now.l a.h.now z c.sliced_lists-lists.result c.sliced_lists-lists.ensures (bit_or x y) (shr_none a.layout.now.n (bit_or x y) c.if-set-layout-ne0.false) p.new.h p.result a.id x y p.ensures.done))
