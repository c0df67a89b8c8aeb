-- What stands in the words of a store (docs/STORE.md), and that they hold a state of `model`. From its first word on: the length of the slice at
-- its opening, n, form, E, A and spare words; then both frames; then the history. Assumes nothing.
use Rattle.std.specs.Prelude.{◌≡◌, ◌⊎◌, List, ℕ, ◌+◌, ◌-◌, ◌*◌, ◌≤◌, ◌<◌, length, get_or, take, drop}
use Rattle.model.specs.Events.{Form, scalar, sliced, Opening, State, plane}
use Rattle.model.specs.Calls.{open_answer, opened, Lent, calls}
use Rattle.lists.specs.Lists.{Among, Only}
use Rattle.frame.specs.Places as frames
use Rattle.history.specs.Words.{history_room, Holds, Uses}

-- ---- places

-- the words that a part of a store has, from `at` on
abbrev pub part : (at size : ℕ) → List ℕ → List ℕ
part at size s = take size (drop at s)

-- both frames: 2 n rows with their phases, and their labels
abbrev pub frame_size : (n l : ℕ) → ℕ
frame_size n l = 2 * n * (2 * l + 1) + 2 * (2 * n)

-- the frames stand behind the header's 14 words, and the history behind the frames
abbrev pub history_place : (n l : ℕ) → ℕ
history_place n l = 14 + frame_size n l

unfoldable pub form_code : Form → ℕ
form_code scalar = 0
form_code sliced = 1

-- ---- that the words hold a state

pub record Header (o : Opening) (s : List ℕ) : Type 0 where
  pub size : get_or s 0 0 ≡ o.size
  pub qubits : get_or s 1 0 ≡ o.n
  pub form : get_or s 2 0 ≡ form_code o.form
  pub capacity : get_or s 3 0 ≡ o.capacity
  pub allowance : get_or s 4 0 ≡ o.allowance

-- the words s hold the state m: header, frames and history, each in its place, in a slice that is no shorter than at the opening
pub record Stored (m : State) (s : List ℕ) : Type 0 where
  pub opens : open_answer m.given ≡ 0
  pub long : m.given.size ≤ length s
  pub header : Header m.given s
  pub frames : frames.Held m.given.n (plane m) m.frame m.sketch (part 14 (frame_size m.given.n (plane m)) s)
  pub history : Holds m.given.form m.given.n m.given.capacity (plane m) m
      (part (history_place m.given.n (plane m)) (history_room m.given.form m.given.n m.given.capacity (plane m)) s)

-- m is a state that calls, refused ones included, leave after an accepted opening
pub record Reached (m : State) : Type 0 where
  pub first : Opening
  pub accepted : open_answer first ≡ 0
  pub since : List Lent
  pub is : m ≡ calls since (opened first)

-- the store holds m, a state that calls can leave
pub record Held (m : State) (s : List ℕ) : Type 0 where
  pub reached : Reached m
  pub stored : Stored m s

-- ---- every word after a call

-- the words on which m relies: five of the header, the frames, and what the history uses
abbrev pub Relies : State → (k : ℕ) → Type 0
Relies m k =
    (k < 5)
    ⊎ (Among 14 (frame_size m.given.n (plane m)) k
    ⊎ (Among (history_place m.given.n (plane m)) (history_room m.given.form m.given.n m.given.capacity (plane m)) k
    × Uses m.given.form m.given.n m.given.capacity (plane m) m (k - history_place m.given.n (plane m))))

-- from the words s to t the state becomes m: t holds it, and every word on which it does not rely is as it was in s
pub record StoredTo (m : State) (s t : List ℕ) : Type 0 where
  pub stored : Stored m t
  pub only : Only (Relies m) s t

pub record HeldTo (m : State) (s t : List ℕ) : Type 0 where
  pub held : Held m t
  pub only : Only (Relies m) s t
