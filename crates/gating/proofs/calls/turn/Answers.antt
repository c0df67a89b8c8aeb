-- `gating::calls::turn` meets its contract: each return by its own law of how a call ends. Assumes nothing.
use Rattle.std.proofs.lemmas.Result.{err_from_is_err_and}
use Rattle.store.proofs.MeetLaws.{unsound_Meets}
use Rattle.model.specs.Calls.{call_turn}
use Rattle.frame.specs.Axes.{kind_of}
use Rattle.store.proofs.SizeLaws.{Framing-planes}
use Rattle.gating.proofs.CallLaws.{frames_long, turn_refused, turn_nine, turn_done}
use Rattle.gating.proofs.GatingLaws.{turn_fits}
use mathlib.Core.Path.{sym}
use mathlib.Core.Bool.{true}
use native.Mathlib.Omega.{arith}
use Rattle.gating.proofs.calls.turn.Goals as goal

pub returns-in_err-n : goal.returns-in_err-n
returns-in_err-n c =
    let p = err_from_is_err_and c.from_residual.result c.from_residual.ensures.1 in
    rw (p.1, p.2) (unsound_Meets (call_turn (kind_of c.args.kind) c.args.k c.args.q) c.args.s.now _ c.in_err-n.ensures)

pub returns-in_err-check_turn : goal.returns-in_err-check_turn
returns-in_err-check_turn c =
    let p = err_from_is_err_and c.from_residual-in_err-check_turn.result c.from_residual-in_err-check_turn.ensures.1 in
    let f = c.in_ok-n.ensures in
    rw (p.1, p.2) (turn_refused c.in_ok-n.n c.in_ok-n.l c.args.s.now f (kind_of c.args.kind) c.args.k c.args.q _ c.in_err-check_turn.ensures)

pub history_place-end-requires : goal.history_place-end-requires
history_place-end-requires c = let f = c.in_ok-n.ensures in (f.few, Framing-planes c.in_ok-n.n c.in_ok-n.l c.args.s.now f)

pub turned-requires : goal.turned-requires
turned-requires c =
    let f = c.in_ok-n.ensures in
    (frames_long c.in_ok-n.n c.in_ok-n.l c.args.s.now f _ (omega arith), turn_fits c.in_ok-n.n c.args.k c.args.q (sym c.in_ok-check_turn.ensures))

pub returns-in_err-turned : goal.returns-in_err-turned
returns-in_err-turned c =
    let p = err_from_is_err_and c.from_residual-in_err-turned.result c.from_residual-in_err-turned.ensures.1 in
    let f = c.in_ok-n.ensures in
    rw (p.1, p.2) (turn_nine c.in_ok-n.n c.in_ok-n.l c.args.s.now f (kind_of c.args.kind) c.args.k c.args.q _ (omega arith) c.turned.new.f c.turned.auto.f c.in_err-turned.ensures)

pub returns : goal.returns
returns c =
    let f = c.in_ok-n.ensures in
    turn_done (kind_of c.args.kind) c.args.k c.args.q c.in_ok-n.n c.in_ok-n.l c.args.s.now f (sym c.in_ok-check_turn.ensures) _ (omega arith) c.turned.new.f true c.turned.auto.f c.in_ok-turned.ensures
