-- The words that a store needs: "Its need is a formula in docs/" (01, "Sizes"). docs/STORE.md says what stands in each room. Assumes nothing.
use Rattle.std.specs.Prelude.{ℕ, ◌+◌, ◌*◌}
use Rattle.model.specs.Events.{Form, scalar, sliced, words}

-- the length at the opening, n, form, E, A, how many events, how many at the last clear, and spare words
unfoldable pub header_room : ℕ
header_room = 16

-- for each qubit the rows x[q] and z[q]: a phase, l words of X and l words of Z each
unfoldable pub frame_room : (n : ℕ) → ℕ
frame_room n = n * 2 * (2 * words n + 1)

-- the labels of both rows of each qubit
unfoldable pub sketch_room : (n : ℕ) → ℕ
sketch_room n = 4 * n

unfoldable pub list_count : Form → (n : ℕ) → ℕ
list_count scalar n = 64
list_count sliced n = n

-- for each list its length and how many of its entries are dead
unfoldable pub count_room : Form → (n : ℕ) → ℕ
count_room f n = 2 * list_count f n

-- chains of rotations with like labels: a head and a link for each event
unfoldable pub chain_room : (E : ℕ) → ℕ
chain_room E = E + E

-- for each event its label (two words), its tag, its sign and whether it is a rotation (one) and its signature (one)
unfoldable pub event_room : (E : ℕ) → ℕ
event_room E = 2 * E + E + E

-- a bit for each event
unfoldable pub live_room : (E : ℕ) → ℕ
live_room E = words E

-- for each event l words of X and l words of Z
unfoldable pub axis_room : (n E : ℕ) → ℕ
axis_room n E = 2 * words n * E

-- One list. Scalar: a number for each event. Sliced: that and, for each block of 64 entries, a mask for X and one for Z of each qubit and a live word.
unfoldable pub list_room : Form → (n E : ℕ) → ℕ
list_room scalar n E = E
list_room sliced n E = E + (2 * n + 1) * words E

unfoldable pub need : (n E : ℕ) → Form → ℕ
need n E f =
    header_room + frame_room n + sketch_room n + count_room f n + chain_room E + event_room E + live_room E + axis_room n E + list_count f n * list_room f n E

-- "at most (2l+96)E + 4nl + 8n + 2,560" (`need_within`)
unfoldable pub roof : (n E : ℕ) → ℕ
roof n E = (2 * words n + 96) * E + 4 * n * words n + 8 * n + 2560
