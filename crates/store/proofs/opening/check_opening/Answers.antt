-- `store::opening::check_opening` meets its contract: one law for each test. Assumes nothing.
use mathlib.Core.Path.{sym}
use Prim.Native.Nat.{◌+◌, ◌/◌}
use Rattle.model.specs.Events.{words}
use Rattle.history.specs.Sizes.{form_of}
use Rattle.store.proofs.SizeLaws.{few_planes, frame_fits, room_small}
use Rattle.store.proofs.OpenLaws.{no_qubits, many_qubits, many_steps, wide, no_events, many_events, long_axes, wrong_labels, small_store, all_fits}
use native.Mathlib.Omega.{arith}
use Rattle.store.proofs.opening.check_opening.Goals as goal
use Rattle.store.proofs.opening.check_opening.Goals.{then-n-eq0-via-then-n-eq0, then-n-eq0-via-else-n-eq0+then-n-gt23168, then-n-eq0-via-else-n-eq0+else-n-gt23168+then-allowance-gt1048576, then-n-eq0-via-else-n-eq0+else-n-gt23168+else-allowance-gt1048576+then-too_wide}
use Rattle.store.proofs.opening.check_opening.Goals.{then-cap-eq0-via-then-cap-eq0, then-cap-eq0-via-else-cap-eq0+then-cap-gt16777216, then-labels-n-via-then-labels-n, then-labels-n-via-else-labels-n+then-words-history_place}

pub returns-then-n-eq0 : goal.returns-then-n-eq0
returns-then-n-eq0 c =
    let a = c.args in
    let f = form_of a.form in
    elim c.then-n-eq0.branch [
      | then-n-eq0-via-then-n-eq0 w ↦ no_qubits a.n a.cap a.allowance f a.labels a.words w.if-n-eq0.true
      | then-n-eq0-via-else-n-eq0+then-n-gt23168 w ↦ many_qubits a.n a.cap a.allowance f a.labels a.words w.if-n-gt23168.true
      | then-n-eq0-via-else-n-eq0+else-n-gt23168+then-allowance-gt1048576 w ↦ many_steps a.n a.cap a.allowance f a.labels a.words w.if-allowance-gt1048576.true
      | then-n-eq0-via-else-n-eq0+else-n-gt23168+else-allowance-gt1048576+then-too_wide w ↦ wide a.n a.cap a.allowance f a.labels a.words (sym w.if-too_wide.ensures)
    ]

pub returns-then-cap-eq0 : goal.returns-then-cap-eq0
returns-then-cap-eq0 c =
    let a = c.args in
    let f = form_of a.form in
    elim c.then-cap-eq0.branch [
      | then-cap-eq0-via-then-cap-eq0 w ↦ no_events a.n a.cap a.allowance f a.labels a.words c.if-n-eq0.false c.if-n-gt23168.false c.if-allowance-gt1048576.false (sym c.if-too_wide.ensures) w.if-cap-eq0.true
      | then-cap-eq0-via-else-cap-eq0+then-cap-gt16777216 w ↦ many_events a.n a.cap a.allowance f a.labels a.words c.if-n-eq0.false c.if-n-gt23168.false c.if-allowance-gt1048576.false (sym c.if-too_wide.ensures) w.if-cap-gt16777216.true
    ]

pub returns-then-l-cap-gt33554432 : goal.returns-then-l-cap-gt33554432
unfolding words
returns-then-l-cap-gt33554432 c =
    let a = c.args in
    long_axes a.n a.cap a.allowance (form_of a.form) a.labels a.words c.if-n-eq0.false c.if-n-gt23168.false c.if-allowance-gt1048576.false (sym c.if-too_wide.ensures) c.if-l-cap-gt33554432.true

pub returns-then-labels-n : goal.returns-then-labels-n
unfolding words
returns-then-labels-n c =
    let a = c.args in
    let f = form_of a.form in
    elim c.then-labels-n.branch [
      | then-labels-n-via-then-labels-n w ↦ wrong_labels a.n a.cap a.allowance f a.labels a.words c.if-n-eq0.false c.if-n-gt23168.false c.if-allowance-gt1048576.false (sym c.if-too_wide.ensures) c.if-cap-eq0.false c.if-l-cap-gt33554432.false w.if-labels-n.true
      | then-labels-n-via-else-labels-n+then-words-history_place w ↦ small_store a.n a.cap a.allowance f a.labels a.words c.if-n-eq0.false c.if-n-gt23168.false c.if-allowance-gt1048576.false (sym c.if-too_wide.ensures) c.if-cap-eq0.false c.if-l-cap-gt33554432.false
          (omega (arith, w.if-words-history_place.true, w.history_place.ensures, w.history_room.ensures))
    ]

pub returns : goal.returns
unfolding words
returns c =
    let a = c.args in
    all_fits a.n a.cap a.allowance (form_of a.form) a.labels a.words c.if-n-eq0.false c.if-n-gt23168.false c.if-allowance-gt1048576.false (sym c.if-too_wide.ensures) c.if-cap-eq0.false c.if-l-cap-gt33554432.false c.if-labels-n.false (omega arith)

pub overflow_add-history_place : goal.overflow_add-history_place
unfolding words
overflow_add-history_place c =
    let a = c.args in
    omega (arith, frame_fits a.n c.if-n-gt23168.false, room_small (form_of a.form) a.n a.cap ((a.n + 63) / 64) c.if-n-gt23168.false c.if-cap-gt16777216.false (few_planes a.n c.if-n-gt23168.false))
