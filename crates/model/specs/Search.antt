-- A look, step by step, after 01, "Events and the search". What it means, without labels, lists and steps, is in `Demands`. Assumes nothing.
use Rattle.std.specs.Prelude.{ℕ, zero, suc, ◌+◌, ◌-◌, ◌*◌, ◌/◌, Bool, false, cond, not, ◌&&◌, List, [], ◌∷◌, ◌++◌, map, length, get_or, take, drop, ℤ, pos, ◌*ℤ◌, eqb, ltb, leb}
use Rattle.model.specs.Pauli.{Pauli, sign, apart}
use Rattle.model.specs.Frame.{Kind, from, paulis, axis}
use Rattle.model.specs.Sketch.{Label, labels, same_label}
use Rattle.model.specs.Events.{Body, rotation, blocker, Event, Form, scalar, sliced, State, plane, keep, some, touches, event_at, live_at}

-- ---- spending

-- a piece of work: what it costs, whether the search stops there once it is paid, and the event that it stops at (a block names none, 0)
pub record Work : Type 0 where
  pub cost : ℕ
  pub stops : Bool
  pub id : ℕ

-- how a walk over work ends, with the steps left: all was done, it stopped at an event, or the next piece cost more than was left
pub data Walk : Type 0 where
  done : (left : ℕ) → Walk
  stopped : (id left : ℕ) → Walk
  dry : (left : ℕ) → Walk

-- "Spending exactly what is left succeeds. One more is 'out of steps'."
unfoldable pub walk : List Work → (left : ℕ) → Walk
walk [] left = done left
walk (w ∷ ws) left =
    let rest : Walk = walk ws (left - w.cost) in
    let paid : Walk = cond w.stops (stopped w.id (left - w.cost)) rest in
    cond (ltb left w.cost) (dry left) paid

-- ---- phase 1: "Live rotations with the present label since the last clear, newest first: 1 step each, until one has the same axis."

-- base + k - 1, .., base + 1, base
unfoldable pub down : (base k : ℕ) → List ℕ
down base zero = []
down base (suc k) = (base + k) ∷ down base k

-- the numbers of the events since the last clear, newest first
unfoldable pub recent : State → List ℕ
recent s = down s.cleared (length s.events - s.cleared)

unfoldable pub has_label : Label → Body → Bool
has_label a (rotation tag sgn label) = same_label a label
has_label a blocker = false

unfoldable pub candidate : List Event → Label → ℕ → Bool
candidate es a id = live_at es id && has_label a (event_at es id).body

unfoldable pub same_axis : (x z : ℕ) → Event → Bool
same_axis x z e = eqb x e.x && eqb z e.z

unfoldable pub phase1 : State → Label → (x z : ℕ) → List Work
phase1 s a x z = map (λ id. record { cost = 1; stops = same_axis x z (event_at s.events id); id = id }) (keep (candidate s.events a) (recent s))

-- ---- phase 2: "Later events."

-- event id is live and anticommutes with the axis
unfoldable pub against : List Event → (x z id : ℕ) → Bool
against es x z id = live_at es id && eqb (apart (event_at es id).x (event_at es id).z x z) 1

unfoldable pub list_at : State → ℕ → List ℕ
list_at s b = get_or s.lists b []

unfoldable pub join : {A : Type 0} → List (List A) → List A
join [] = []
join (s ∷ ss) = s ++ join ss

-- "Scalar: signature bits rising, each list's entries after the match, 1 step each, dead ones too, each live pair tested in its first shared
-- list only." Here: the axis and the event e share a bit below b.
unfoldable pub shared_below : (l x z : ℕ) → Event → (b : ℕ) → Bool
shared_below l x z e b = some (λ c. touches l x z c && touches l e.x e.z c) (from 0 b)

unfoldable pub entry : State → (x z b id : ℕ) → Work
entry s x z b id = record {
  cost = 1;
  stops = not (shared_below (plane s) x z (event_at s.events id) b) && against s.events x z id;
  id = id;
}

unfoldable pub scalar_list : State → (after x z b : ℕ) → List Work
scalar_list s after x z b = map (entry s x z b) (keep (ltb after) (list_at s b))

-- "Sliced: support qubits rising, from the block of 64 entries where the first later one would stand; a block costs its live entries, earlier
-- ones too, and is then tested." Here: a list in blocks of 64, of which there are at most m.
unfoldable pub blocks : (m : ℕ) → List ℕ → List (List ℕ)
blocks zero s = []
blocks (suc m) [] = []
blocks (suc m) (i ∷ s) = take 64 (i ∷ s) ∷ blocks m (drop 64 (i ∷ s))

-- where the first later entry would stand
unfoldable pub start : (after : ℕ) → List ℕ → ℕ
start after s = length (keep (λ id. leb id after) s)

unfoldable pub block : State → (after x z : ℕ) → List ℕ → Work
block s after x z ids = record {
  cost = length (keep (live_at s.events) ids);
  stops = some (λ id. ltb after id && against s.events x z id) ids;
  id = 0;
}

unfoldable pub sliced_list : State → (after x z b : ℕ) → List Work
sliced_list s after x z b =
    map (block s after x z) (blocks (length (list_at s b)) (drop (start after (list_at s b) / 64 * 64) (list_at s b)))

unfoldable pub list_work : State → Form → (after x z b : ℕ) → List Work
list_work s scalar = scalar_list s
list_work s sliced = sliced_list s

-- the lists of the axis's signature bits, rising (in the sliced form l is 1, and bit q is qubit q)
unfoldable pub phase2 : State → (after x z : ℕ) → List Work
phase2 s after x z = join (map (list_work s s.given.form after x z) (keep (touches (plane s) x z) (from 0 (length s.lists))))

-- ---- a look

pub data Look : Type 0 where
  found : (id : ℕ) (sgn : ℤ) (steps : ℕ) → Look
  none blocked out : (steps : ℕ) → Look

-- a rotation's sign; a blocker has none
unfoldable pub sign_at : Body → ℤ
sign_at (rotation tag sgn label) = sgn
sign_at blocker = pos 0

-- "steps reports what was spent"
unfoldable pub spent : State → (left : ℕ) → ℕ
spent s left = s.given.allowance - left

-- "The first anticommuting find: 'blocked'. Else 'found', with the relative sign, the product of both signs, +1 or -1."
unfoldable pub looked2 : State → (g : ℤ) → (id : ℕ) → Walk → Look
looked2 s g id (done left) = found id (sign_at (event_at s.events id).body *ℤ g) (spent s left)
looked2 s g id (stopped j left) = blocked (spent s left)
looked2 s g id (dry left) = out (spent s left)

-- "If none has: 'none'."
unfoldable pub looked1 : State → (g : ℤ) → (x z : ℕ) → Walk → Look
looked1 s g x z (done left) = none (spent s left)
looked1 s g x z (stopped id left) = looked2 s g id (walk (phase2 s id x z) left)
looked1 s g x z (dry left) = out (spent s left)

-- a look for an axis with the sign g, the label a and the sets x and z: "A look spends from A, which starts afresh"
unfoldable pub look_for : State → (g : ℤ) → Label → (x z : ℕ) → Look
look_for s g a x z = looked1 s g x z (walk (phase1 s a x z) s.given.allowance)

unfoldable pub look : Kind → (q : ℕ) → State → Look
look k q s =
    let p : Pauli = axis paulis k q s.frame in
    look_for s (sign p) (axis labels k q s.sketch) p.x p.z
