-- `partner::calls::apply` meets its contract: each arm is the call. Assumes nothing.
use Rattle.std.proofs.lemmas.Result.{err_from_is_err_and}
use Rattle.partner.specs.Calls.{call_in}
use Rattle.partner.proofs.calls.apply.Goals as goal

pub returns-in-Gate : goal.returns-in-Gate
unfolding call_in
returns-in-Gate c = rw (c.in-Gate.is, c.without_event.ensures) c.gate.ensures

pub returns-in-Turn : goal.returns-in-Turn
unfolding call_in
returns-in-Turn c = rw (c.in-Turn.is, c.without_event-in-Turn.ensures) c.turn.ensures

pub returns-in-Record : goal.returns-in-Record
unfolding call_in
returns-in-Record c = rw (c.in-Record.is, c.with_event.ensures) c.«record».ensures

pub returns-in-Measure : goal.returns-in-Measure
unfolding call_in
returns-in-Measure c = rw (c.in-Measure.is, c.with_event-in-Measure.ensures) c.measure.ensures

pub returns-in-Reset : goal.returns-in-Reset
unfolding call_in
returns-in-Reset c = rw (c.in-Reset.is, c.with_event-in-Reset.ensures) c.reset.ensures

pub returns-in-Ccx : goal.returns-in-Ccx
unfolding call_in
returns-in-Ccx c = rw (c.in-Ccx.is, c.with_event-in-Ccx.ensures) c.ccx.ensures

pub returns-in-Ccz : goal.returns-in-Ccz
unfolding call_in
returns-in-Ccz c = rw (c.in-Ccz.is, c.with_event-in-Ccz.ensures) c.ccz.ensures

pub returns-in-Kill : goal.returns-in-Kill
unfolding call_in
returns-in-Kill c = rw (c.in-Kill.is, c.without_event-in-Kill.ensures) c.kill.ensures

pub returns-in_err-clear-in-Clear : goal.returns-in_err-clear-in-Clear
unfolding call_in
returns-in_err-clear-in-Clear c =
    let p = err_from_is_err_and c.from_residual.result c.from_residual.ensures.1 in
    rw (c.in-Clear.is, p.1, p.2) (rw c.in_err-clear-in-Clear.was at c.clear.ensures)

pub returns-in_ok-clear-in-Clear : goal.returns-in_ok-clear-in-Clear
unfolding call_in
returns-in_ok-clear-in-Clear c = rw c.in-Clear.is (rw c.in_ok-clear-in-Clear.was at c.clear.ensures)
