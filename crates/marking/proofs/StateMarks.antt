-- Laws of the states that several records in a row pass. Assumes nothing.
use mathlib.Core.Path.{◌≡◌, refl, ap, ◌∙◌}
use mathlib.Core.List.{List, [], ◌∷◌}
use Prim.Native.Nat.{ℕ, zero, suc, ◌+◌, ◌≤◌, ◌<◌}
use native.Mathlib.Nat.{not-suc-le-zero, le_of_suc-le-suc}
use native.Mathlib.Numerals.{add-one}
use native.Mathlib.Omega.{arith}
use lib.ListN.{length, take}
use lib.Seq.{length-take-le}
use Rattle.model.specs.Frame.{Rows}
use Rattle.model.specs.Sketch.{Label}
use Rattle.model.specs.Events.{Event, State, event_at, record1, record_all}
use Rattle.model.specs.Calls.{seven, effect}
use Rattle.model.proofs.Lists.{length_new}
use Rattle.model.proofs.Good.{Good, AllOk, origin, Good-record_all}
use Rattle.marking.specs.Marks.{call_of, records_of, events_of}
use Rattle.marking.specs.declared.events.Mark.{Mark}
use Rattle.marking.specs.declared.events.Mark.TheVariants.{Rotation, Measure, Reset, Ccx, Ccz}

-- ---- one record after another

more : (es : List Event) (i : ℕ) (m : State) → i < length es → record_all (take (suc i) es) m ≡ record1 (event_at es i) (record_all (take i es) m)
unfolding record_all event_at
more [] i m h = absurd (not-suc-le-zero h)
more (e ∷ es) zero m h = refl
more (e ∷ es) (suc i) m h = more es i (record1 e m) (le_of_suc-le-suc h)

pub record_more : (es : List Event) (i : ℕ) (m : State) → i < length es → record_all (take (i + 1) es) m ≡ record1 (event_at es i) (record_all (take i es) m)
record_more es i m h = ap (λ (k : ℕ). record_all (take k es) m) (add-one i) ∙ more es i m h

pub record_count : (es : List Event) (m : State) → length (record_all es m).events ≡ length m.events + length es
unfolding record_all record1
record_count [] m = omega arith
record_count (e ∷ es) m = omega (arith, record_count es (record1 e m), length_new m.events e)

take_ok : (o : Rows Label) (n i : ℕ) (es : List Event) → AllOk o n es → AllOk o n (take i es)
take_ok o n zero es h = tt
take_ok o n (suc i) [] h = tt
take_ok o n (suc i) (e ∷ es) h = (h.0, h.1, take_ok o n i es h.2)

-- ---- the events of a mark

pub mark-effect : (mark : Mark) (w : ℕ) (m : State) → effect (call_of mark) w m ≡ record_all (events_of mark m) m
unfolding call_of events_of effect record_all
mark-effect (Rotation kind q tag) w m = refl
mark-effect (Measure q) w m = refl
mark-effect (Reset q) w m = refl
mark-effect (Ccx a b t) w m = refl
mark-effect (Ccz a b t) w m = refl

pub mark_count : (mark : Mark) (m : State) → length (events_of mark m) ≡ records_of mark
unfolding records_of events_of seven
mark_count (Rotation kind q tag) m = refl
mark_count (Measure q) m = refl
mark_count (Reset q) m = refl
mark_count (Ccx a b t) m = refl
mark_count (Ccz a b t) m = refl

-- ---- goodness on the way

-- the state after some of several good records is good
pub Good-some : (es : List Event) (i : ℕ) (m : State) → Good m → AllOk (origin m) m.given.n es → i ≤ length es → length m.events + i ≤ m.given.capacity
    → Good (record_all (take i es) m)
Good-some es i m g ok h room =
    Good-record_all (take i es) m g (take_ok (origin m) m.given.n i es ok) (omega (arith, length-take-le i es h))
