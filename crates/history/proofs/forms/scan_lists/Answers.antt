-- `history::forms::scan_lists` meets its contract: the lists that the words hold are such as a scan of their form asks for. Assumes nothing.
use mathlib.Core.Path.{refl}
use lib.ListN.{get_or}
use lib.Bits.{bit_or}
use Rattle.model.specs.Events as model
use Rattle.history.specs.Sizes.{Sized}
use Rattle.history.proofs.FormLaws.{as_Scalar, as_Sliced, shr_none, or_left, or_right}
use Rattle.history.proofs.ScanForm.{held_Scalar, held_Sliced, all_scannable, all_sliced, narrow_small, narrow_scan}
use Rattle.history.proofs.ListPlaces.{scalar_reads, scalar_scan, sliced_there, sliced_takes, sliced_scan}
use native.Mathlib.Omega.{arith}
use Rattle.history.proofs.forms.scan_lists.Goals as goal
use Rattle.history.proofs.forms.scan_lists.Goals.{In-Scalar, In-Sliced}

scalar : (c : In-Scalar) → let a = c.args in Sized model.scalar a.layout.now.n a.layout.now.cap a.layout.now.l a.h.now
scalar c = as_Scalar c.args.layout.now.form c.args.layout.now.n c.args.layout.now.cap c.args.layout.now.l c.args.h.now c.in-Scalar.is c.requires.0

sliced : (c : In-Sliced) → let a = c.args in Sized model.sliced a.layout.now.n a.layout.now.cap a.layout.now.l a.h.now
sliced c = as_Sliced c.args.layout.now.form c.args.layout.now.n c.args.layout.now.cap c.args.layout.now.l c.args.h.now c.in-Sliced.is c.requires.0

pub scan-requires-clause-room : goal.scan-requires-clause-room
scan-requires-clause-room c =
    let a = c.args in
    scalar_reads a.layout.now.n a.layout.now.cap a.layout.now.l a.h.now (scalar (goal.at.scan-requires-clause-room c).In-Scalar) c.scalar_lists-lists.result c.scalar_lists-lists.ensures a.events a.axis.now c.requires.2 c.requires.1

pub bounds-axis-0 : goal.bounds-axis-0
bounds-axis-0 c = omega (arith, (sliced (goal.at.bounds-axis-0 c).In-Sliced).narrow.1)

pub bounds-axis-1 : goal.bounds-axis-1
bounds-axis-1 c = omega (arith, (sliced (goal.at.bounds-axis-1 c).In-Sliced).narrow.1)

pub overflow_shr-set : goal.overflow_shr-set
overflow_shr-set c = omega (arith, (sliced (goal.at.overflow_shr-set c).In-Sliced).narrow.0)

pub returns-then-set-layout-ne0 : goal.returns-then-set-layout-ne0
returns-then-set-layout-ne0 c =
    let a = c.args in
    let z = sliced (goal.at.returns-then-set-layout-ne0 c).In-Sliced in
    λ m held scanned x_small z_small.
    absurd (c.if-set-layout-ne0.true (narrow_small a.axis.now a.layout.now.l c.requires.1 z.narrow.1 a.layout.now.n x_small z_small))

pub sliced_lists-lists-requires : goal.sliced_lists-lists-requires
sliced_lists-lists-requires c =
    let z = sliced (goal.at.sliced_lists-lists-requires c).In-Sliced in
    (z.planes, z.narrow.0)

pub scan-requires-in-Sliced-clause-room : goal.scan-requires-in-Sliced-clause-room
scan-requires-in-Sliced-clause-room c =
    let a = c.args in
    let x = get_or a.axis.now 0 0 in
    let z = get_or a.axis.now 1 0 in
    sliced_takes a.layout.now.n a.layout.now.cap a.layout.now.l a.h.now (sliced (goal.at.scan-requires-in-Sliced-clause-room c).In-Sliced) c.sliced_lists-lists.result c.sliced_lists-lists.ensures
    a.axis.now c.requires.1 (or_left a.layout.now.n x z c.if-set-layout-ne0.false) (or_right a.layout.now.n x z c.if-set-layout-ne0.false) a.h.now refl

pub scan-requires-in-Sliced-clause-there : goal.scan-requires-in-Sliced-clause-there
scan-requires-in-Sliced-clause-there c =
    let a = c.args in
    let set = bit_or (get_or a.axis.now 0 0) (get_or a.axis.now 1 0) in
    sliced_there a.layout.now.n a.layout.now.cap a.layout.now.l a.h.now (sliced (goal.at.scan-requires-in-Sliced-clause-there c).In-Sliced) c.sliced_lists-lists.result c.sliced_lists-lists.ensures
    set (shr_none a.layout.now.n set c.if-set-layout-ne0.false)

pub returns-in-Scalar : goal.returns-in-Scalar
returns-in-Scalar c =
    let a = c.args in
    let s = c.scalar_lists-lists in
    λ m held scanned x_small z_small.
    scalar_scan a.layout.now.n a.layout.now.cap a.layout.now.l a.h.now (scalar (goal.at.returns-in-Scalar c).In-Scalar) s.result s.ensures a.events a.axis.now c.signature.result a.after a.budget c.scan.result c.scan.ensures
    m (all_scannable a.layout.now.n a.layout.now.cap a.layout.now.l a.events m a.h.now (held_Scalar a.layout.now.n a.layout.now.cap a.layout.now.l a.h.now a.layout.now.form m c.in-Scalar.is held) scanned) c.signature.ensures

pub returns-else-set-layout-ne0 : goal.returns-else-set-layout-ne0
returns-else-set-layout-ne0 c =
    let a = c.args in
    let x = get_or a.axis.now 0 0 in
    let y = get_or a.axis.now 1 0 in
    let s = c.sliced_lists-lists in
    let z = sliced (goal.at.returns-else-set-layout-ne0 c).In-Sliced in
    λ m held scanned x_small z_small.
    narrow_scan a.axis.now a.layout.now.l c.requires.1 z.narrow.1 m a.after a.budget.0 c.scan-in-Sliced.result
    (sliced_scan a.layout.now.n a.layout.now.cap a.layout.now.l a.h.now z s.result s.ensures x y a.after a.budget c.scan-in-Sliced.result (or_left a.layout.now.n x y c.if-set-layout-ne0.false) (or_right a.layout.now.n x y c.if-set-layout-ne0.false)
    c.scan-in-Sliced.ensures m (all_sliced a.layout.now.n a.layout.now.cap a.layout.now.l m a.h.now (held_Sliced a.layout.now.n a.layout.now.cap a.layout.now.l a.h.now a.layout.now.form m c.in-Sliced.is held)))
