-- The state, its events and the lists of their numbers, and what records, kills and clears do to them, after 01, "Events and the search".
-- Assumes nothing.
use Rattle.std.specs.Prelude.{ℕ, suc, ◌+◌, ◌*◌, ◌/◌, ◌%◌, ◌^◌, Bool, true, false, cond, not, List, [], ◌∷◌, ◌++◌, map, length, get_or, set, ℤ, eqb, ltb}
use Rattle.std.specs.Int.Bits.{bit_or}
use Rattle.model.specs.Pauli.{Pauli}
use Rattle.model.specs.Frame.{Rows}
use Rattle.model.specs.Sketch.{Label}

-- "A rotation keeps tag (32 bits), sign, sketch label, axis." A blocker keeps its axis alone.
pub data Body : Type 0 where
  rotation : (tag : ℕ) (sgn : ℤ) (label : Label) → Body
  blocker : Body

-- x and z are the sets of the axis.
pub record Event : Type 0 where
  pub body : Body
  pub x : ℕ
  pub z : ℕ
  pub live : Bool

pub data Form : Type 0 where
  scalar sliced : Form

-- What an opening is given, 01's n, E, A, form and labels, and how many words of store are lent to it. It stays as it is until the next opening.
pub record Opening : Type 0 where
  pub n : ℕ
  pub capacity : ℕ
  pub allowance : ℕ
  pub form : Form
  pub label_words : List ℕ
  pub size : ℕ

pub record State : Type 0 where
  pub given : Opening
  pub frame : Rows Pauli
  pub sketch : Rows Label
  -- event number i stands at place i
  pub events : List Event
  -- "Lists: one per signature bit, 64 scalar or n sliced, with the event numbers rising."
  pub lists : List (List ℕ)
  -- how many events there were at the last clear
  pub cleared : ℕ

module _ {A : Type 0} where
  -- the elements that pass a test, in order
  unfoldable pub keep : (A → Bool) → List A → List A
  keep p [] = []
  keep p (a ∷ s) = let t : List A = keep p s in cond (p a) (a ∷ t) t

  -- whether some element passes a test
  unfoldable pub some : (A → Bool) → List A → Bool
  some p [] = false
  some p (a ∷ s) = let t : Bool = some p s in cond (p a) true t

-- "l = n/64 rounded up"
unfoldable pub words : ℕ → ℕ
words n = (n + 63) / 64

-- l, the words of a plane
abbrev pub plane : State → ℕ
plane s = words s.given.n

-- Whether signature bit b of an axis is 1: some qubit q with q / l = b is in its X or Z set (docs/DIFFERENCES.md, 1; `signature_by_qubits`).
unfoldable pub touches : (l x z b : ℕ) → Bool
touches l x z b = not (eqb (bit_or x z / 2 ^ (l * b) % 2 ^ l) 0)

unfoldable pub no_event : Event
no_event = record { body = blocker; x = 0; z = 0; live = false }

unfoldable pub event_at : List Event → ℕ → Event
event_at es id = get_or es id no_event

unfoldable pub live_at : List Event → ℕ → Bool
live_at es id = (event_at es id).live

unfoldable pub is_rotation : Body → Bool
is_rotation (rotation tag sgn label) = true
is_rotation blocker = false

-- ---- recording

-- event id goes to the end of each list that its axis touches; b is the number of the first list given
unfoldable pub push : (l id : ℕ) → Event → (b : ℕ) → List (List ℕ) → List (List ℕ)
push l id e b [] = []
push l id e b (s ∷ ss) = cond (touches l e.x e.z b) (s ++ (id ∷ [])) s ∷ push l id e (suc b) ss

-- "Numbers count from 0 in order of recording and are never used again."
unfoldable pub record1 : Event → State → State
record1 e s = record {
  given = s.given;
  frame = s.frame;
  sketch = s.sketch;
  events = s.events ++ (e ∷ []);
  lists = push (plane s) (length s.events) e 0 s.lists;
  cleared = s.cleared;
}

unfoldable pub record_all : List Event → State → State
record_all [] s = s
record_all (e ∷ es) s = record_all es (record1 e s)

-- "phases ignored"
unfoldable pub blocker_on : Pauli → Event
blocker_on p = record { body = blocker; x = p.x; z = p.z; live = true }

-- ---- kill

unfoldable pub killed : Event → Event
killed e = record { body = e.body; x = e.x; z = e.z; live = false }

-- dead entries of a list
unfoldable pub dead : List Event → List ℕ → ℕ
dead es s = length (keep (λ id. not (live_at es id)) s)

-- "a scalar list drops its dead when 4·dead > length, a sliced one when 2·dead > length"
unfoldable pub factor : Form → ℕ
factor scalar = 4
factor sliced = 2

unfoldable pub tidy : Form → List Event → List ℕ → List ℕ
tidy f es s = cond (ltb (length s) (factor f * dead es s)) (keep (live_at es) s) s

-- Only the lists of the killed event's support can change: no other has more dead than it may (`kill_local`).
unfoldable pub kill : ℕ → State → State
kill id s =
    let es : List Event = set s.events id (killed (event_at s.events id)) in
    record {
      given = s.given;
      frame = s.frame;
      sketch = s.sketch;
      events = es;
      lists = map (tidy s.given.form es) s.lists;
      cleared = s.cleared;
    }

-- ---- clear

-- "no rotation recorded so far can be found; nothing else changes"
unfoldable pub clear : State → State
clear s = record {
  given = s.given;
  frame = s.frame;
  sketch = s.sketch;
  events = s.events;
  lists = s.lists;
  cleared = length s.events;
}
