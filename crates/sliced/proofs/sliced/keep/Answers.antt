-- `sliced::sliced::keep` meets its contract: each branch is a case of `Stepped`. Assumes nothing.
use mathlib.Core.Path.{◌≡◌, ap, ◌∙◌}
use mathlib.Core.Bool.{true, false}
use Prim.Native.Nat.{◌+◌, ◌*◌, ◌<◌}
use Rattle.std.specs.Prelude.{Ok, is_err}
use Rattle.lists.proofs.ScalarLaws.{told, told_none}
use lib.ListN.{get_or}
use Rattle.lists.specs.Lists.{is_live}
use Rattle.sliced.proofs.RebuildLaws.{Stepped-unknown, Stepped-wide, Stepped-live, Stepped-dead, small_x, small_z}
use Rattle.sliced.proofs.sliced.keep.Goals as goal
use Rattle.sliced.proofs.sliced.keep.Goals.{Else-not-branch}

alive-one : (c : Else-not-branch) → (c.args.id < c.args.live.events) × (is_live c.args.h.now c.args.live.at c.args.id ≡ true)
alive-one c = told c.args.h.now c.args.live.at c.args.live.events c.args.id c.has.result c.has.ensures.unknown c.has.ensures.known true (c.in_ok-has.was ∙ ap Ok c.if-not-branch.false)

pub returns-in_err-has : goal.returns-in_err-has
returns-in_err-has c =
    Stepped-unknown c.args.h.now c.args.room.base c.args.room.cap c.args.room.n c.args.k c.args.live.at c.args.axes c.args.live.events c.args.id
    (told_none c.args.h.now c.args.live.at c.args.live.events c.args.id c.has.result c.has.ensures.unknown c.has.ensures.known (ap is_err c.in_err-has.was)) c.from_residual.result c.from_residual.ensures.0

pub returns-then-x-z-ne0 : goal.returns-then-x-z-ne0
returns-then-x-z-ne0 c =
    Stepped-wide c.args.h.now c.args.room.base c.args.room.cap c.args.room.n c.args.k c.args.live.at c.args.axes c.args.live.events c.args.id (alive-one (goal.at.returns-then-x-z-ne0 c).Else-not-branch).0 (alive-one (goal.at.returns-then-x-z-ne0 c).Else-not-branch).1 c.if-x-z-ne0.true

pub append-requires : goal.append-requires
append-requires c =
    (c.requires.0, c.requires.1, small_x (get_or c.args.h.now (c.args.axes + 2 * c.args.id) 0) (get_or c.args.h.now (c.args.axes + (2 * c.args.id + 1)) 0) c.args.room.n c.if-x-z-ne0.false, small_z (get_or c.args.h.now (c.args.axes + 2 * c.args.id) 0) (get_or c.args.h.now (c.args.axes + (2 * c.args.id + 1)) 0) c.args.room.n c.if-x-z-ne0.false)

pub returns : goal.returns
returns c =
    Stepped-live c.args.h.now c.args.room.base c.args.room.cap c.args.room.n c.args.k c.args.live.at c.args.axes c.args.live.events c.args.id c.append.new.h (alive-one (goal.at.returns c).Else-not-branch).0 (alive-one (goal.at.returns c).Else-not-branch).1 c.append.ensures

pub returns-then-not-branch : goal.returns-then-not-branch
returns-then-not-branch c =
    let t = told c.args.h.now c.args.live.at c.args.live.events c.args.id c.has.result c.has.ensures.unknown c.has.ensures.known false (c.in_ok-has.was ∙ ap Ok c.if-not-branch.true) in
    Stepped-dead c.args.h.now c.args.room.base c.args.room.cap c.args.room.n c.args.k c.args.live.at c.args.axes c.args.live.events c.args.id t.0 t.1
