-- `gating::calls::gate` meets its contract: each return by its own law of how a call ends. Assumes nothing.
use Rattle.std.proofs.lemmas.Result.{err_from_is_err_and}
use Rattle.store.proofs.MeetLaws.{unsound_Meets}
use Rattle.model.specs.Calls.{call_gate}
use Rattle.gating.specs.Gates.{gate_of}
use Rattle.store.proofs.SizeLaws.{Framing-planes}
use Rattle.gating.proofs.CallLaws.{frames_long, gate_refused, gate_nine, gate_done}
use Rattle.gating.proofs.GatingLaws.{qubits_fit}
use mathlib.Core.Path.{sym}
use mathlib.Core.Bool.{true}
use native.Mathlib.Omega.{arith}
use Rattle.gating.proofs.calls.gate.Goals as goal

pub returns-in_err-n : goal.returns-in_err-n
returns-in_err-n c =
    let p = err_from_is_err_and c.from_residual.result c.from_residual.ensures.1 in
    rw (p.1, p.2) (unsound_Meets (call_gate (gate_of c.args.g)) c.args.s.now _ c.in_err-n.ensures)

pub returns-in_err-check_gate : goal.returns-in_err-check_gate
returns-in_err-check_gate c =
    let p = err_from_is_err_and c.from_residual-in_err-check_gate.result c.from_residual-in_err-check_gate.ensures.1 in
    let f = c.in_ok-n.ensures in
    rw (p.1, p.2) (gate_refused c.in_ok-n.n c.in_ok-n.l c.args.s.now f (gate_of c.args.g) _ c.in_err-check_gate.ensures)

pub history_place-end-requires : goal.history_place-end-requires
history_place-end-requires c = let f = c.in_ok-n.ensures in (f.few, Framing-planes c.in_ok-n.n c.in_ok-n.l c.args.s.now f)

pub act-requires : goal.act-requires
act-requires c =
    let f = c.in_ok-n.ensures in
    (frames_long c.in_ok-n.n c.in_ok-n.l c.args.s.now f _ (omega arith), qubits_fit c.in_ok-n.n (gate_of c.args.g) (sym c.in_ok-check_gate.ensures))

pub returns-in_err-act : goal.returns-in_err-act
returns-in_err-act c =
    let p = err_from_is_err_and c.from_residual-in_err-act.result c.from_residual-in_err-act.ensures.1 in
    let f = c.in_ok-n.ensures in
    rw (p.1, p.2) (gate_nine c.in_ok-n.n c.in_ok-n.l c.args.s.now f (gate_of c.args.g) _ (omega arith) c.act.new.f c.act.auto.f c.in_err-act.ensures)

pub returns : goal.returns
returns c =
    let f = c.in_ok-n.ensures in
    gate_done (gate_of c.args.g) c.in_ok-n.n c.in_ok-n.l c.args.s.now f (sym c.in_ok-check_gate.ensures) _ (omega arith) c.act.new.f true c.act.auto.f c.in_ok-act.ensures
