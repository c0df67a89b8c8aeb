-- 01's worked example of the line program, computed from the definition, byte for byte; and small inputs that 01 and docs/DECISIONS.md, 10, decide. Assumes nothing.
use Prim.Native.Nat.{ℕ}
use Prim.Native.String.{String}
use mathlib.Core.Path.{◌≡◌, refl}
use mathlib.Core.List.{List, [], ◌∷◌, ◌++◌}
use Rattle.model.specs.Pauli.{count_in, count, times, shift, plain, quarter, sign_of, sign, apart, anti}
use Rattle.model.specs.Frame.{x_at, z_at, set_x, set_z, gate_h, gate_s, gate_z, gate_x, gate_cnot, gate_cz, gate_swap, gate, turn_z, turn, axis, paulis, from, pauli_x, pauli_z, fresh}
use Rattle.model.specs.Sketch.{label_xor, no_label, same_label, labels, label_rows}
use Rattle.model.specs.Events.{keep, some, words, touches, no_event, event_at, live_at, is_rotation, push, record1, record_all, blocker_on, killed, dead, factor, tidy, kill, clear}
use Rattle.model.specs.Search.{walk, down, recent, has_label, candidate, same_axis, phase1, against, list_at, join, shared_below, entry, scalar_list, blocks, start as first_block, block, sliced_list, list_work, phase2, sign_at, spent, looked2, looked1, look_for, look}
use Rattle.model.specs.Store.{header_room, frame_room, sketch_room, list_count, count_room, chain_room, event_room, live_room, axis_room, list_room, need}
use Rattle.model.specs.Calls.{is_too_wide, open_number, open_answer, opened, opening, answer, twice, answer_to, gate_qubits, not_readable, not_killable, reply_of, reply, reframed, rotation_of, seven, effect, call, tally}
use Rattle.frame.specs.Axes.{kind_of}
use Rattle.gating.specs.Gates.{gate_of}
use Rattle.history.specs.Sizes.{form_of}
use Rattle.partner.specs.Calls.{call_in}
use Rattle.text.specs.Shape.{bytes, glyph, digits, decimal, hexes, letter, item_of, print}
use Rattle.text.specs.Taken.{nibble, more, number_at, word_at, kind_at, byte_at}
use Rattle.text.specs.Fit.{fitted}
use Rattle.text.specs.Line.{kind_numbered, read_rows, reading_of}
use Rattle.text.specs.Spoken.{spoken}
use Rattle.session.specs.Session.{tried, start, heard, ran, last_saying, output}

-- lines, each with its newline
abbrev pub lines : List String → List ℕ
lines [] = []
lines (s ∷ ss) = bytes s ++ (10 ∷ lines ss)

abbrev pub example_in : List ℕ
example_in =
    lines
    ("qubits=2" ∷ "form=scalar" ∷ "events=8" ∷ "steps=1048576"
    ∷ "label=0 x=00000000000000000000000000000001 z=00000000000000000000000000000002"
    ∷ "label=1 x=00000000000000000000000000000004 z=00000000000000000000000000000008"
    ∷ "record=z a=0 tag=1" ∷ "gate=cnot a=0 b=1" ∷ "look=z a=1" ∷ "gate=x a=1" ∷ "gate=cnot a=0 b=1" ∷ "gate=x a=0" ∷ "look=z a=0"
    ∷ "record=x a=0 tag=2" ∷ "look=z a=0" ∷ "kill=1" ∷ "look=z a=0" ∷ "clear=all" ∷ "look=z a=0" ∷ [])

abbrev pub example_out : List ℕ
example_out =
    lines
    ("line=7 answer=0 id=0" ∷ "line=8 answer=0" ∷ "line=9 look=none steps=0" ∷ "line=10 answer=0" ∷ "line=11 answer=0" ∷ "line=12 answer=0"
    ∷ "line=13 look=found id=0 sign=-1 steps=1" ∷ "line=14 answer=0 id=1" ∷ "line=15 look=blocked steps=2" ∷ "line=16 answer=0"
    ∷ "line=17 look=found id=0 sign=-1 steps=1" ∷ "line=18 answer=0" ∷ "line=19 look=none steps=0" ∷ "end=19 events=2 live=1" ∷ [])

pub example : output example_in ≡ example_out
unfolding output ran heard tried start last_saying reading_of read_rows kind_numbered fitted item_of nibble more number_at word_at kind_at byte_at spoken print decimal digits glyph hexes letter call_in gate_of kind_of form_of count_in count times shift plain quarter sign_of sign apart anti x_at z_at set_x set_z gate_h gate_s gate_z gate_x gate_cnot gate_cz gate_swap gate turn_z turn axis paulis from pauli_x pauli_z fresh label_xor no_label same_label labels label_rows keep some words touches no_event event_at live_at is_rotation push record1 record_all blocker_on killed dead factor tidy kill clear walk down recent has_label candidate same_axis phase1 against list_at join shared_below entry scalar_list blocks first_block block sliced_list list_work phase2 sign_at spent looked2 looked1 look_for look header_room frame_room sketch_room list_count count_room chain_room event_room live_room axis_room list_room need is_too_wide open_number open_answer opened opening answer twice answer_to gate_qubits not_readable not_killable reply_of reply reframed rotation_of seven effect call tally
example = refl

-- one qubit, with its label
abbrev header : (events steps : String) → List String
header e a = "qubits=1" ∷ "form=sliced" ∷ e ∷ a ∷ "label=0 x=00000000000000000000000000000001 z=0000000000000000000000000000000f" ∷ []

pub record Small : Type 0 where
  -- "Input that ends before the header and labels are whole does the same with the number after the last line."
  pub empty : output [] ≡ lines ("line=1 answer=bad" ∷ [])
  pub early : output (lines ("qubits=1" ∷ "form=scalar" ∷ "events=1" ∷ "steps=9" ∷ [])) ≡ lines ("line=5 answer=bad" ∷ [])
  -- a last line without its newline
  pub unended : output (lines (header "events=1" "steps=9") ++ bytes "clear=all") ≡ lines ("line=6 answer=bad" ∷ [])
  -- "a header naming more than 32 qubits or 48 events"
  pub many_qubits : output (lines ("qubits=33" ∷ [])) ≡ lines ("line=1 answer=bad" ∷ [])
  pub many_events : output (lines ("qubits=32" ∷ "form=scalar" ∷ "events=49" ∷ [])) ≡ lines ("line=3 answer=bad" ∷ [])
  -- "A refused opening, tried once the labels are read, prints `open=K` and stops."
  pub no_qubits : output (lines ("qubits=0" ∷ "form=scalar" ∷ "events=1" ∷ "steps=9" ∷ "clear=all" ∷ [])) ≡ lines ("open=1" ∷ [])
  pub many_steps : output (lines (header "events=1" "steps=9999999999")) ≡ lines ("open=1" ∷ [])
  pub no_events : output (lines (header "events=0" "steps=9")) ≡ lines ("open=2" ∷ [])
  -- with no operations the end is the last label line
  pub idle : output (lines (header "events=1" "steps=9")) ≡ lines ("end=5 events=0 live=0" ∷ [])
  -- refusals print their number alone, and what was said before a bad line stays
  pub bad_after : output (lines (header "events=1" "steps=9") ++ lines ("record=y a=0 tag=4294967295" ∷ "measure=0" ∷ "kill=9" ∷ "turn=1 kind=p a=7" ∷ "gate=h  a=0" ∷ "clear=all" ∷ []))
      ≡ lines ("line=6 answer=0 id=0" ∷ "line=7 answer=6" ∷ "line=8 answer=7" ∷ "line=9 answer=8" ∷ "line=10 answer=bad" ∷ [])
  -- a line that does not come next, a label out of order, a blank line, a CR before the newline
  pub other_header : output (lines ("qubits=1" ∷ "gate=h a=0" ∷ [])) ≡ lines ("line=2 answer=bad" ∷ [])
  pub header_again : output (lines (header "events=1" "steps=9") ++ lines ("qubits=1" ∷ [])) ≡ lines ("line=6 answer=bad" ∷ [])
  pub second_first : output (lines ("qubits=2" ∷ "form=scalar" ∷ "events=1" ∷ "steps=9"
      ∷ "label=1 x=00000000000000000000000000000001 z=0000000000000000000000000000000f" ∷ [])) ≡ lines ("line=5 answer=bad" ∷ [])
  pub blank : output (lines (header "events=1" "steps=9") ++ lines ("" ∷ [])) ≡ lines ("line=6 answer=bad" ∷ [])
  pub carriage : output (lines (header "events=1" "steps=9") ++ lines ("clear=all\r" ∷ [])) ≡ lines ("line=6 answer=bad" ∷ [])
  -- ten digits are legal text, eleven are not
  pub ten_digits : output (lines (header "events=1" "steps=9") ++ lines ("kill=9999999999" ∷ "gate=h a=4294967296" ∷ "turn=9999999999 kind=x a=0" ∷ "kill=10000000000" ∷ []))
      ≡ lines ("line=6 answer=7" ∷ "line=7 answer=4" ∷ "line=8 answer=8" ∷ "line=9 answer=bad" ∷ [])
  -- the end line counts blockers, and takes off what was killed
  pub counts : output (lines (header "events=4" "steps=9") ++ lines ("reset=0" ∷ "record=z a=0 tag=1" ∷ "kill=2" ∷ "measure=0" ∷ []))
      ≡ lines ("line=6 answer=0 id=0" ∷ "line=7 answer=0 id=2" ∷ "line=8 answer=0" ∷ "line=9 answer=0 id=3" ∷ "end=9 events=4 live=3" ∷ [])
  pub wide_tag : output (lines (header "events=1" "steps=9") ++ lines ("record=y a=0 tag=4294967296" ∷ [])) ≡ lines ("line=6 answer=bad" ∷ [])

pub small : Small
unfolding output ran heard tried start last_saying reading_of read_rows kind_numbered fitted item_of nibble more number_at word_at kind_at byte_at spoken print decimal digits glyph hexes letter call_in gate_of kind_of form_of count_in count times shift plain quarter sign_of sign apart anti x_at z_at set_x set_z gate_h gate_s gate_z gate_x gate_cnot gate_cz gate_swap gate turn_z turn axis paulis from pauli_x pauli_z fresh label_xor no_label same_label labels label_rows keep some words touches no_event event_at live_at is_rotation push record1 record_all blocker_on killed dead factor tidy kill clear walk down recent has_label candidate same_axis phase1 against list_at join shared_below entry scalar_list blocks first_block block sliced_list list_work phase2 sign_at spent looked2 looked1 look_for look header_room frame_room sketch_room list_count count_room chain_room event_room live_room axis_room list_room need is_too_wide open_number open_answer opened opening answer twice answer_to gate_qubits not_readable not_killable reply_of reply reframed rotation_of seven effect call tally
small = record {
  empty = refl;
  early = refl;
  unended = refl;
  many_qubits = refl;
  many_events = refl;
  no_qubits = refl;
  many_steps = refl;
  no_events = refl;
  idle = refl;
  bad_after = refl;
  other_header = refl;
  header_again = refl;
  second_first = refl;
  blank = refl;
  carriage = refl;
  ten_digits = refl;
  counts = refl;
  wide_tag = refl;
}
