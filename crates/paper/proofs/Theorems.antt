-- The frames are Aaronson and Gottesman's: the theorems of docs/PROMISES.md about `paper`. But for `computed`, their statements are in the words of
-- specs/ alone. Assumes nothing.
use Prim.Native.Nat.{ℕ, ◌^◌, ◌<◌}
use mathlib.Core.Path.{◌≡◌, ap₂, ◌∙◌, sym, subst}
use mathlib.Core.Logic.{◌⊎◌}
use mathlib.Core.List.{List}
use lib.IntN.{ℤ, ◌*ℤ◌}
use Rattle.model.specs.Pauli.{Pauli, times, sign, anti}
use Rattle.model.specs.Frame.{Kind, kind_x, kind_z, Gate, x_at, z_at, gate, axis, paulis, fresh}
use Rattle.model.specs.Events.{Opening, State, event_at}
use Rattle.model.specs.Search.{found, look}
use Rattle.model.specs.Calls.{open_answer, opened, Lent, calls}
use Rattle.model.specs.Demands.{Fits, HasSign, Named, Says, Recorded}
use Rattle.model.proofs.Theorems.{look_true, product_signed}
use Rattle.model.proofs.Products.{Even}
use Rattle.paper.specs.Tableau.{Row, run, inverse, total, rowsum}
use Rattle.paper.specs.Bridge.{to_row, of_row, row_sign, single, circuit, circuits, gates, AllFit, theirs, Is, row_at, carried}
use Rattle.paper.proofs.Cases.{Tables, tables}
use Rattle.paper.proofs.Rowsum.{total-quarter, product_rowsum}
use Rattle.paper.proofs.Same as Same
use Rattle.paper.proofs.Recordings.{event_Is, signed_is}

-- ---- 0. the paper's updates on all letters, against matrices

pub computed : Tables
computed = tables

-- ---- 1. rows

-- a row of theirs is one of ours with a sign, and reading it back gives it again
pub theirs_and_back : (w : Row) → w.r < 2 → HasSign (of_row w) × ((of_row w).phase < 4) × (to_row (of_row w) ≡ w)
theirs_and_back = Same.theirs_and_back

-- a row of ours with a sign is one of theirs, and reading it back gives it again
pub ours_and_back : (p : Pauli) → p.phase < 4 → HasSign p → ((to_row p).r < 2) × (of_row (to_row p) ≡ p)
ours_and_back = Same.ours_and_back

-- the sign is (-1)^r
pub same_sign : (p : Pauli) → HasSign p → sign p ≡ row_sign (to_row p).r
same_sign = Same.same_sign

-- ---- 2. products: our product of commuting rows that have signs is their rowsum, whose total is 0 or 2

pub product_is_rowsum : (n : ℕ) (a b : Pauli) → a.x < 2 ^ n → a.z < 2 ^ n → b.x < 2 ^ n → b.z < 2 ^ n → HasSign a → HasSign b → anti a b ≡ 0
    → (to_row (times a b) ≡ rowsum n (to_row a) (to_row b)) × ((total n (to_row a) (to_row b) ≡ 0) ⊎ (total n (to_row a) (to_row b) ≡ 2))
product_is_rowsum n a b ax az bx bz ha hb c = (
  product_rowsum n a b ax az bx bz (Same.even a ha) (Same.even b hb),
  subst Even (sym (total-quarter n a b ax az bx bz (Same.even a ha) (Same.even b hb))) (Same.even (times a b) (product_signed a b ha hb c).0),
)

-- ---- 3. gates: the images that 01 lists are, row for row, their update by the inverse gate

pub gate_images : (n : ℕ) (f : Gate) (q : ℕ) → Fits n f → q < n
    → (x_at paulis (gate paulis f (fresh n)) q ≡ of_row (run (inverse (circuit f)) (single kind_x q)))
    × (z_at paulis (gate paulis f (fresh n)) q ≡ of_row (run (inverse (circuit f)) (single kind_z q)))
gate_images = Same.gate_images

-- ---- 4. frames

-- any gates in a row, each axis: U†PU by their updates, the last gate's inverse first
pub gates_are_theirs : (n : ℕ) (fs : List Gate) (kind : Kind) (q : ℕ) → AllFit n fs → q < n
    → axis paulis kind q (gates fs (fresh n)) ≡ of_row (run (inverse (circuits fs)) (single kind q))
gates_are_theirs = Same.through_gates

-- the same after any calls: each axis, of kind x and z each row, of our frame
pub frames_are_theirs : (o : Opening) (cs : List Lent) (kind : Kind) (q : ℕ) → q < (calls cs (opened o)).given.n
    → axis paulis kind q (calls cs (opened o)).frame ≡ of_row (carried o cs kind q)
frames_are_theirs = Same.frames_are_theirs

-- hence every event: it has the sets, and a rotation the sign, of the rows at the calls before the one that recorded it (every event was
-- recorded by one: `events-Recorded` of `model`)
pub events_are_theirs : (o : Opening) (cs : List Lent) (i : ℕ) (r : Recorded cs (opened o) i)
    → Is (event_at (calls cs (opened o)).events i) (row_at (theirs r.by.call (carried o r.before)) r.place)
events_are_theirs = event_Is

-- and the sign that a look reports: that of the event when it was recorded times that of the present axis
pub look_is_theirs : (o : Opening) → open_answer o ≡ 0 → (cs : List Lent) → let s : State = calls cs (opened o) in
    (kind : Kind) (q id steps : ℕ) (g : ℤ) → q < s.given.n → look kind q s ≡ found id g steps → (r : Recorded cs (opened o) id)
    → g ≡ row_sign (row_at (theirs r.by.call (carried o r.before)) r.place).r *ℤ row_sign (carried o cs kind q).r
look_is_theirs o k cs kind q id steps g h e r =
    let s : State = calls cs (opened o) in
    let p : Pauli = axis paulis kind q s.frame in
    let n : Named s p id g = subst (Says s p) e (look_true o k cs kind q) in
    n.relative ∙ ap₂ ◌*ℤ◌ (signed_is _ _ n.newest.match.rotation (event_Is o cs id r).signed) (Same.axis-sign o cs kind q h)
