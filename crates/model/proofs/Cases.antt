-- Computed from the definitions: 01's twelve proved cases and its worked example, with 01's own numbers; the images of every gate and turn, from
-- matrices (tools/gate_images.py); and the slips that 01 and the design name, counted by hand. Assumes nothing.
use Prim.Native.Nat.{ℕ, zero, suc, ◌+◌, ◌*◌}
use mathlib.Core.Path.{◌≡◌, refl}
use mathlib.Core.List.{List, [], ◌∷◌, ◌++◌, map}
use mathlib.Core.Bool.{true, false}
use lib.IntN.{pos, negsuc}
use lib.ListN.{replicate}
use Rattle.model.specs.Pauli.{Pauli, count_in, count, times, shift, plain, quarter, sign_of, sign, apart, anti}
use Rattle.model.specs.Frame.{Rows, Kind, kind_x, kind_y, kind_z, kind_p, Gate, h_gate, x_gate, y_gate, z_gate, s_gate, sdg_gate, sx_gate, cnot_gate, cz_gate, swap_gate, cy_gate, x_at, z_at, set_x, set_z, gate_h, gate_s, gate_z, gate_x, gate_cnot, gate_cz, gate_swap, gate, turn_z, turn, axis, paulis, from, pauli_x, pauli_z, fresh}
use Rattle.model.specs.Sketch.{label_xor, no_label, same_label, labels, label_rows}
use Rattle.model.specs.Events.{Event, Form, scalar, sliced, Opening, State, keep, some, words, touches, no_event, event_at, live_at, is_rotation, push, record1, record_all, blocker_on, killed, dead, factor, tidy, kill, clear}
use Rattle.model.specs.Search.{walk, down, recent, has_label, candidate, same_axis, phase1, against, list_at, join, shared_below, entry, scalar_list, blocks, start, block, sliced_list, list_work, phase2, Look, found, none, blocked, out, sign_at, spent, looked2, looked1, look_for, look}
use Rattle.model.specs.Store.{header_room, frame_room, sketch_room, list_count, count_room, chain_room, event_room, live_room, axis_room, list_room, need}
use Rattle.model.specs.Calls.{is_too_wide, open_number, open_answer, opened, opening, Call, call_open, call_gate, call_turn, call_record, call_measure, call_reset, call_ccx, call_ccz, call_kill, call_read, call_clear, call_look, Lent, answer, twice, answer_to, gate_qubits, not_readable, not_killable, tag_at, reading, Reply, refused, accepted, recorded, says, looked, reply_of, reply, reframed, rotation_of, seven, effect, call, calls, replies, tally}

-- ---- runs

-- an opening on a store with just the words that it needs
unfoldable pub exactly : (n E A : ℕ) → Form → List ℕ → Opening
exactly n E A form ws = opening n E A form ws (need n E form)

-- the same with all labels 0: "All-zero labels are legal"
unfoldable pub alike : (n E A : ℕ) → Form → Opening
alike n E A form = exactly n E A form (replicate (4 * n) 0)

-- calls on the whole store
unfoldable pub lend : Opening → List Call → List Lent
lend o [] = []
lend o (c ∷ cs) = record { call = c; store = o.size } ∷ lend o cs

-- the state that they leave, and what they give back
unfoldable pub run : Opening → List Call → State
run o cs = calls (lend o cs) (opened o)

unfoldable pub told : Opening → List Call → List Reply
told o cs = replies (lend o cs) (opened o)

-- m times the same call, then others
unfoldable pub times_call : ℕ → Call → List Call → List Call
times_call zero c cs = cs
times_call (suc m) c cs = c ∷ times_call m c cs

-- m records of Z0 on one qubit, then a look, with allowance A
unfoldable pub looking : Form → (m A : ℕ) → Look
looking form m A = look kind_z 0 (run (alike 1 m A form) (times_call m (call_record kind_z 0 0) []))

-- the axis of a kind of qubit 0 after a gate on it
unfoldable pub axis_after : List Call → Kind → Pauli
axis_after cs k = axis paulis k 0 (run (alike 1 1 0 scalar) cs).frame

unfoldable pub sets_of_row : Pauli → List ℕ
sets_of_row p = p.x ∷ p.z ∷ []

unfoldable pub sets : Event → List ℕ
sets e = e.x ∷ e.z ∷ []

-- an opening on just the words that it needs
unfoldable pub tried : (n E A : ℕ) → Form → ℕ
tried n E A form = open_number n E A form (4 * n) (need n E form)

-- ---- 01, "Proved cases"

pub record Twelve : Type 0 where
  pub case1 : (tried 23168 1 0 scalar ≡ 0) × (tried 23169 1 0 scalar ≡ 1)
  pub case2 : (tried 32 1 0 sliced ≡ 0) × (tried 33 1 0 sliced ≡ 1)
  pub case3 : (tried 64 16777216 0 scalar ≡ 0) × (tried 64 16777217 0 scalar ≡ 2)
  pub case4 : (tried 192 5592405 0 scalar ≡ 0) × (tried 192 5592406 0 scalar ≡ 2)
  pub case5 : sign (axis_after [] kind_y) ≡ pos 1
  pub case6 : (sets_of_row (axis_after (call_gate (s_gate 0) ∷ []) kind_x) ≡ 1 ∷ 1 ∷ []) × (sign (axis_after (call_gate (s_gate 0) ∷ []) kind_x) ≡ negsuc 0)
  pub case7 : (sets_of_row (axis_after (call_gate (sdg_gate 0) ∷ []) kind_x) ≡ 1 ∷ 1 ∷ []) × (sign (axis_after (call_gate (sdg_gate 0) ∷ []) kind_x) ≡ pos 1)
  pub case8 : (sets_of_row (axis_after (call_gate (sx_gate 0) ∷ []) kind_z) ≡ 1 ∷ 1 ∷ []) × (sign (axis_after (call_gate (sx_gate 0) ∷ []) kind_z) ≡ pos 1)
  pub case9 : (looking scalar 1 1 ≡ found 0 (pos 1) 1) × (looking scalar 1 0 ≡ out 0) × (looking sliced 1 1 ≡ out 1)
  pub case10 : (looking sliced 64 1000 ≡ found 63 (pos 1) 1) × (looking sliced 63 1000 ≡ found 62 (pos 1) 64)
  pub case11 : (told (alike 3 6 0 scalar) (call_ccx 0 1 2 ∷ []) ≡ refused 6 ∷ [])
      × (map sets (run (alike 3 7 0 scalar) (call_ccx 0 1 2 ∷ [])).events
      ≡ (0 ∷ 1 ∷ []) ∷ (0 ∷ 2 ∷ []) ∷ (0 ∷ 3 ∷ []) ∷ (4 ∷ 0 ∷ []) ∷ (4 ∷ 1 ∷ []) ∷ (4 ∷ 2 ∷ []) ∷ (4 ∷ 3 ∷ []) ∷ [])
  pub case12 : (list_at (run (alike 1 4 0 scalar) (times_call 4 (call_record kind_z 0 0) (call_kill 0 ∷ []))) 0 ≡ 0 ∷ 1 ∷ 2 ∷ 3 ∷ [])
      × (list_at (run (alike 1 4 0 scalar) (times_call 4 (call_record kind_z 0 0) (call_kill 0 ∷ call_kill 1 ∷ []))) 0 ≡ 2 ∷ 3 ∷ [])

-- ---- 01, "The line program": lines 7 to 19 of the input, what each prints, and the end line

unfoldable pub sample : Opening
sample = exactly 2 8 1048576 scalar (0 ∷ 1 ∷ 0 ∷ 2 ∷ 0 ∷ 4 ∷ 0 ∷ 8 ∷ [])

unfoldable pub sample_lines : List Call
sample_lines =
    call_record kind_z 0 1 ∷ call_gate (cnot_gate 0 1) ∷ call_look kind_z 1 ∷ call_gate (x_gate 1) ∷ call_gate (cnot_gate 0 1) ∷ call_gate (x_gate 0) ∷ call_look kind_z 0
    ∷ call_record kind_x 0 2 ∷ call_look kind_z 0 ∷ call_kill 1 ∷ call_look kind_z 0 ∷ call_clear ∷ call_look kind_z 0 ∷ []

pub record Example : Type 0 where
  pub opens : open_answer sample ≡ 0
  pub lines : told sample sample_lines
      ≡ recorded 0 ∷ accepted ∷ looked (none 0) ∷ accepted ∷ accepted ∷ accepted ∷ looked (found 0 (negsuc 0) 1)
      ∷ recorded 1 ∷ looked (blocked 2) ∷ accepted ∷ looked (found 0 (negsuc 0) 1) ∷ accepted ∷ looked (none 0) ∷ []
  pub end : tally (run sample sample_lines) ≡ record { events = 2; live = 1 }

-- ---- the images of the gates: the rows x[0], x[1], z[0], z[1] of two fresh qubits as phase, X set, Z set, from G†PG as matrices

unfoldable pub triple : Pauli → List ℕ
triple p = p.phase ∷ p.x ∷ p.z ∷ []

unfoldable pub table : Rows Pauli → List (List ℕ)
table r = map triple (r.xs ++ r.zs)

-- the other qubit's rows, fresh
unfoldable pub besides : (x z : List ℕ) → List (List ℕ)
besides x z = x ∷ (0 ∷ 2 ∷ 0 ∷ []) ∷ z ∷ (0 ∷ 0 ∷ 2 ∷ []) ∷ []

unfoldable pub through : Gate → List (List ℕ)
through g = table (gate paulis g (fresh 2))

unfoldable pub turned2 : Kind → ℕ → List (List ℕ)
turned2 k t = table (turn paulis k t 0 (fresh 2))

pub record Images : Type 0 where
  pub h : through (h_gate 0) ≡ besides (0 ∷ 0 ∷ 1 ∷ []) (0 ∷ 1 ∷ 0 ∷ [])
  pub x : through (x_gate 0) ≡ besides (0 ∷ 1 ∷ 0 ∷ []) (2 ∷ 0 ∷ 1 ∷ [])
  pub y : through (y_gate 0) ≡ besides (2 ∷ 1 ∷ 0 ∷ []) (2 ∷ 0 ∷ 1 ∷ [])
  pub z : through (z_gate 0) ≡ besides (2 ∷ 1 ∷ 0 ∷ []) (0 ∷ 0 ∷ 1 ∷ [])
  pub s : through (s_gate 0) ≡ besides (3 ∷ 1 ∷ 1 ∷ []) (0 ∷ 0 ∷ 1 ∷ [])
  pub sdg : through (sdg_gate 0) ≡ besides (1 ∷ 1 ∷ 1 ∷ []) (0 ∷ 0 ∷ 1 ∷ [])
  pub sx : through (sx_gate 0) ≡ besides (0 ∷ 1 ∷ 0 ∷ []) (1 ∷ 1 ∷ 1 ∷ [])
  pub cnot : through (cnot_gate 0 1) ≡ (0 ∷ 3 ∷ 0 ∷ []) ∷ (0 ∷ 2 ∷ 0 ∷ []) ∷ (0 ∷ 0 ∷ 1 ∷ []) ∷ (0 ∷ 0 ∷ 3 ∷ []) ∷ []
  pub cz : through (cz_gate 0 1) ≡ (0 ∷ 1 ∷ 2 ∷ []) ∷ (0 ∷ 2 ∷ 1 ∷ []) ∷ (0 ∷ 0 ∷ 1 ∷ []) ∷ (0 ∷ 0 ∷ 2 ∷ []) ∷ []
  pub swap : through (swap_gate 0 1) ≡ (0 ∷ 2 ∷ 0 ∷ []) ∷ (0 ∷ 1 ∷ 0 ∷ []) ∷ (0 ∷ 0 ∷ 2 ∷ []) ∷ (0 ∷ 0 ∷ 1 ∷ []) ∷ []
  pub cy : through (cy_gate 0 1) ≡ (1 ∷ 3 ∷ 2 ∷ []) ∷ (0 ∷ 2 ∷ 1 ∷ []) ∷ (0 ∷ 0 ∷ 1 ∷ []) ∷ (0 ∷ 0 ∷ 3 ∷ []) ∷ []
  pub turns_x : (turned2 kind_x 0 ≡ table (fresh 2)) × (turned2 kind_x 2 ≡ besides (0 ∷ 1 ∷ 0 ∷ []) (1 ∷ 1 ∷ 1 ∷ []))
      × (turned2 kind_x 4 ≡ besides (0 ∷ 1 ∷ 0 ∷ []) (2 ∷ 0 ∷ 1 ∷ [])) × (turned2 kind_x 6 ≡ besides (0 ∷ 1 ∷ 0 ∷ []) (3 ∷ 1 ∷ 1 ∷ []))
  pub turns_y : (turned2 kind_y 0 ≡ table (fresh 2)) × (turned2 kind_y 2 ≡ besides (0 ∷ 0 ∷ 1 ∷ []) (2 ∷ 1 ∷ 0 ∷ []))
      × (turned2 kind_y 4 ≡ besides (2 ∷ 1 ∷ 0 ∷ []) (2 ∷ 0 ∷ 1 ∷ [])) × (turned2 kind_y 6 ≡ besides (2 ∷ 0 ∷ 1 ∷ []) (0 ∷ 1 ∷ 0 ∷ []))
  pub turns_z : (turned2 kind_z 0 ≡ table (fresh 2)) × (turned2 kind_z 2 ≡ besides (3 ∷ 1 ∷ 1 ∷ []) (0 ∷ 0 ∷ 1 ∷ []))
      × (turned2 kind_z 4 ≡ besides (2 ∷ 1 ∷ 0 ∷ []) (0 ∷ 0 ∷ 1 ∷ [])) × (turned2 kind_z 6 ≡ besides (1 ∷ 1 ∷ 1 ∷ []) (0 ∷ 0 ∷ 1 ∷ []))
  pub turns_p : (turned2 kind_p 2 ≡ turned2 kind_z 2) × (turned2 kind_p 4 ≡ turned2 kind_z 4) × (turned2 kind_p 6 ≡ turned2 kind_z 6)

-- ---- 01, "Slips that look right" and "Try and exclude"; steps counted by hand

-- Z0Z1 recorded as the axis of z[1] behind a cnot
unfoldable pub pair_first : List Call → List Call
pair_first cs = call_gate (cnot_gate 0 1) ∷ call_record kind_z 1 0 ∷ call_gate (cnot_gate 0 1) ∷ cs

-- qubit q has the labels 2q + 1 and 2q + 2
unfoldable pub own_labels : (k q : ℕ) → List ℕ
own_labels zero q = []
own_labels (suc k) q = 0 ∷ (2 * q + 1) ∷ 0 ∷ (2 * q + 2) ∷ own_labels k (suc q)

-- the last of some replies
unfoldable pub last : List Reply → Reply
last [] = accepted
last (a ∷ []) = a
last (a ∷ b ∷ s) = last (b ∷ s)

pub record Slips : Type 0 where
  -- equal labels are not trusted: X0 has the label of Z0, and another axis
  pub labels_decide_nothing : told (alike 1 2 9 scalar) (call_record kind_x 0 0 ∷ call_look kind_z 0 ∷ []) ≡ recorded 0 ∷ looked (none 1) ∷ []
  -- the newest of the label has another axis, an older one the same
  pub older_one_matches : last (told (alike 2 2 9 scalar) (call_record kind_z 0 0 ∷ call_record kind_z 1 0 ∷ call_look kind_z 0 ∷ [])) ≡ looked (found 0 (pos 1) 2)
  -- an event in the second list of the axis alone bars it: X1 against Z0Z1, in both forms
  pub second_list : (last (told (alike 2 2 9 scalar) (pair_first (call_record kind_x 1 0 ∷ call_gate (cnot_gate 0 1) ∷ call_look kind_z 1 ∷ []))) ≡ looked (blocked 3))
      × (last (told (alike 2 2 9 sliced) (pair_first (call_record kind_x 1 0 ∷ call_gate (cnot_gate 0 1) ∷ call_look kind_z 1 ∷ []))) ≡ looked (blocked 5))
  -- ... and so does one in the second block: Z0Z1, 64 times Z0, X0. The match costs 1, its block 64, the next 2.
  pub second_block : last (told (exactly 2 66 1000 sliced (own_labels 2 0))
      (pair_first (times_call 64 (call_record kind_z 0 0) (call_record kind_x 0 0 ∷ call_gate (cnot_gate 0 1) ∷ call_look kind_z 1 ∷ [])))) ≡ looked (blocked 67)
  -- a sliced list of 2 keeps one dead entry, and one of 3 drops two
  pub sliced_share : (list_at (run (alike 1 2 0 sliced) (times_call 2 (call_record kind_z 0 0) (call_kill 0 ∷ []))) 0 ≡ 0 ∷ 1 ∷ [])
      × (list_at (run (alike 1 3 0 sliced) (times_call 3 (call_record kind_z 0 0) (call_kill 0 ∷ call_kill 1 ∷ []))) 0 ≡ 2 ∷ [])
  -- a dead scalar entry is stepped over and costs 1: the match, then 1, which is dead, 2 and 3
  pub dead_costs : last (told (exactly 2 8 9 scalar (own_labels 2 0))
      (pair_first (call_record kind_x 0 0 ∷ times_call 2 (call_record kind_z 0 0) (call_kill 1 ∷ call_gate (cnot_gate 0 1) ∷ call_look kind_z 1 ∷ [])))) ≡ looked (found 0 (pos 1) 4)
  -- a clear leaves the lists as they are: an event from before it costs a step in its block
  pub clear_keeps_lists : last (told (alike 1 2 9 sliced) (call_record kind_z 0 0 ∷ call_clear ∷ call_record kind_z 0 0 ∷ call_look kind_z 0 ∷ [])) ≡ looked (found 1 (pos 1) 3)
  -- a signature bit is qubit / l: at 65 qubits Z0 and Z1 share bit 0 (docs/DIFFERENCES.md, 1)
  pub signature : last (told (exactly 65 2 9 scalar (own_labels 65 0)) (call_record kind_z 0 0 ∷ call_record kind_z 1 0 ∷ call_look kind_z 0 ∷ [])) ≡ looked (found 0 (pos 1) 2)
  -- high qubits compute: at 192 qubits Z190Z191 is found, and s 191 makes an axis that bars it, with the sign -1
  pub high_qubits : told (alike 192 2 9 scalar)
      (call_gate (cnot_gate 190 191) ∷ call_record kind_z 191 7 ∷ call_look kind_z 191 ∷ call_gate (s_gate 191) ∷ call_record kind_x 191 8 ∷ call_read 1 ∷ call_look kind_z 191 ∷ [])
      ≡ accepted ∷ recorded 0 ∷ looked (found 0 (pos 1) 1) ∷ accepted ∷ recorded 1 ∷ says (record { tag = 8; sgn = negsuc 0; live = true }) ∷ looked (blocked 3) ∷ []
  -- a measurement bars X and lets Z pass, a reset bars both; Z0 is measured behind h as X0
  pub blockers : (last (told (alike 1 2 9 scalar) (call_record kind_x 0 0 ∷ call_measure 0 ∷ call_look kind_x 0 ∷ [])) ≡ looked (blocked 2))
      × (last (told (alike 1 2 9 scalar) (call_record kind_z 0 0 ∷ call_measure 0 ∷ call_look kind_z 0 ∷ [])) ≡ looked (found 0 (pos 1) 2))
      × (last (told (alike 1 2 9 scalar) (call_record kind_z 0 0 ∷ call_gate (h_gate 0) ∷ call_measure 0 ∷ call_gate (h_gate 0) ∷ call_look kind_z 0 ∷ [])) ≡ looked (blocked 2))
      × (last (told (alike 1 3 9 scalar) (call_record kind_z 0 0 ∷ call_reset 0 ∷ call_look kind_z 0 ∷ [])) ≡ looked (blocked 3))
      × (last (told (alike 1 3 9 scalar) (call_record kind_x 0 0 ∷ call_reset 0 ∷ call_look kind_x 0 ∷ [])) ≡ looked (blocked 2))
      × (map sets (run (alike 3 7 0 scalar) (call_ccz 0 1 2 ∷ [])).events
      ≡ (0 ∷ 1 ∷ []) ∷ (0 ∷ 2 ∷ []) ∷ (0 ∷ 3 ∷ []) ∷ (0 ∷ 4 ∷ []) ∷ (0 ∷ 5 ∷ []) ∷ (0 ∷ 6 ∷ []) ∷ (0 ∷ 7 ∷ []) ∷ [])
  -- openings on two qubits for one event, which need 8 words of labels and 238 of store, and an allowance of at most 2^20; 1, 2, 3 in this order
  pub openings : (open_number 2 1 1048576 scalar 8 237 ≡ 0) × (open_number 2 1 1048576 scalar 8 236 ≡ 3) × (open_number 2 1 1048576 scalar 7 237 ≡ 3)
      × (open_number 2 1 1048577 scalar 8 237 ≡ 1) × (open_number 0 0 0 scalar 7 0 ≡ 1) × (open_number 33 0 0 sliced 7 0 ≡ 1) × (open_number 2 0 0 scalar 7 0 ≡ 2)
  -- refusals, each first in its order; a refused reset leaves both its places free, and a refused opening the store
  pub refusals : told (alike 2 2 9 scalar)
      (call_gate (cnot_gate 2 2) ∷ call_gate (cnot_gate 1 1) ∷ call_turn kind_y 3 9 ∷ call_look kind_x 2 ∷ call_record kind_z 0 5 ∷ call_reset 0 ∷ call_measure 1
      ∷ call_kill 2 ∷ call_kill 1 ∷ call_read 1 ∷ call_kill 0 ∷ call_kill 0 ∷ call_open 0 1 0 scalar [] ∷ call_read 0 ∷ [])
      ≡ refused 4 ∷ refused 5 ∷ refused 8 ∷ refused 4 ∷ recorded 0 ∷ refused 6 ∷ recorded 1
      ∷ refused 7 ∷ refused 7 ∷ refused 7 ∷ accepted ∷ refused 7 ∷ refused 1 ∷ says (record { tag = 5; sgn = pos 1; live = false }) ∷ []
  pub short_store : reply (call_gate (cnot_gate 9 9)) 5 (opened (alike 2 1 9 scalar)) ≡ refused 3
  -- X0X1 and Z0Z1 commute and have the sign +1; their product has -1 (docs/DECISIONS.md, "The sign of a product")
  pub sign_twist : (anti (record { phase = 0; x = 3; z = 0 }) (record { phase = 0; x = 0; z = 3 }) ≡ 0)
      × (sign (record { phase = 0; x = 3; z = 0 }) ≡ pos 1) × (sign (record { phase = 0; x = 0; z = 3 }) ≡ pos 1)
      × (sign (times (record { phase = 0; x = 3; z = 0 }) (record { phase = 0; x = 0; z = 3 })) ≡ negsuc 0)

-- ---- one computed theorem

pub record Cases : Type 0 where
  pub twelve : Twelve
  pub example : Example
  pub images : Images
  pub slips : Slips

pub cases : Cases
unfolding count_in count times shift plain quarter sign_of sign apart anti x_at z_at set_x set_z gate_h gate_s gate_z gate_x gate_cnot gate_cz gate_swap gate turn_z turn axis paulis from pauli_x pauli_z fresh label_xor no_label same_label labels label_rows keep some words touches no_event event_at live_at is_rotation push record1 record_all blocker_on killed dead factor tidy kill clear walk down recent has_label candidate same_axis phase1 against list_at join shared_below entry scalar_list blocks start block sliced_list list_work phase2 sign_at spent looked2 looked1 look_for look header_room frame_room sketch_room list_count count_room chain_room event_room live_room axis_room list_room need is_too_wide open_number open_answer opened opening answer twice answer_to gate_qubits not_readable not_killable tag_at reading reply_of reply reframed rotation_of seven effect call calls replies tally exactly alike lend run told times_call looking axis_after sets_of_row sets tried sample sample_lines triple table besides through turned2 pair_first own_labels last
cases = record {
  twelve = record {
    case1 = (refl, refl);
    case2 = (refl, refl);
    case3 = (refl, refl);
    case4 = (refl, refl);
    case5 = refl;
    case6 = (refl, refl);
    case7 = (refl, refl);
    case8 = (refl, refl);
    case9 = (refl, refl, refl);
    case10 = (refl, refl);
    case11 = (refl, refl);
    case12 = (refl, refl);
  };
  example = record { opens = refl; lines = refl; end = refl };
  images = record {
    h = refl;
    x = refl;
    y = refl;
    z = refl;
    s = refl;
    sdg = refl;
    sx = refl;
    cnot = refl;
    cz = refl;
    swap = refl;
    cy = refl;
    turns_x = (refl, refl, refl, refl);
    turns_y = (refl, refl, refl, refl);
    turns_z = (refl, refl, refl, refl);
    turns_p = (refl, refl, refl);
  };
  slips = record {
    labels_decide_nothing = refl;
    older_one_matches = refl;
    second_list = (refl, refl);
    second_block = refl;
    sliced_share = (refl, refl);
    dead_costs = refl;
    clear_keeps_lists = refl;
    signature = refl;
    high_qubits = refl;
    blockers = (refl, refl, refl, refl, refl, refl);
    openings = (refl, refl, refl, refl, refl, refl, refl);
    refusals = refl;
    short_store = refl;
    sign_twist = (refl, refl, refl, refl);
  };
}
