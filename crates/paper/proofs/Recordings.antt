-- Every event that calls have recorded is the paper's: its sets and, for a rotation, its sign. Assumes nothing.
use Prim.Native.Nat.{ℕ, zero, suc, ◌<◌}
use mathlib.Core.Path.{◌≡◌, refl, sym, ap, ap₂, ◌∙◌, subst}
use mathlib.Core.Logic.{inl, inr}
use mathlib.Core.Bool.{true, false, false≢true}
use mathlib.Core.List.{List, [], ◌∷◌, map}
use native.Mathlib.Nat.{not-suc-le-zero, le_of_suc-le-suc}
use lib.Bits.{bit_xor}
use lib.IntN.{ℤ}
use lib.ListN.{length}
use Rattle.model.specs.Pauli.{Pauli, times}
use Rattle.model.specs.Frame.{Kind, kind_x, kind_z, axis, paulis, x_at, z_at}
use Rattle.model.specs.Events.{Body, rotation, blocker, is_rotation, Event, Opening, State, event_at, blocker_on}
use Rattle.model.specs.Search.{sign_at}
use Rattle.model.specs.Calls.{opened, Call, call_open, call_gate, call_turn, call_record, call_measure, call_reset, call_ccx, call_ccz, call_kill, call_read, call_clear, call_look, Lent, answer_to, rotation_of, seven, calls}
use Rattle.model.specs.Demands.{recorded_by, SameEvent, Recorded}
use Rattle.model.proofs.Good.{Passed, passed, inside_Mem}
use Rattle.paper.specs.Tableau.{Row}
use Rattle.paper.specs.Bridge.{of_row, row_sign, together, seven_rows, theirs, SignOf, Is, row_at, carried}
use Rattle.paper.proofs.Same.{frames_are_theirs, axis-sign}

-- what an accepted call records is theirs, one by one
abbrev AllAre : List Event → List Row → Type 0
AllAre [] [] = Unit {0}
AllAre [] (w ∷ ws) = ⊥
AllAre (e ∷ es) [] = ⊥
AllAre (e ∷ es) (w ∷ ws) = Is e w × AllAre es ws

one_of : (es : List Event) (ws : List Row) (k : ℕ) → AllAre es ws → k < length es → Is (event_at es k) (row_at ws k)
unfolding event_at row_at
one_of [] ws k a h = absurd (not-suc-le-zero h)
one_of (e ∷ es) [] k a h = absurd a
one_of (e ∷ es) (w ∷ ws) zero a h = a.0
one_of (e ∷ es) (w ∷ ws) (suc k) a h = unfold event_at row_at in one_of es ws k a.1 (le_of_suc-le-suc h)

-- a blocker on a row
blocked_on : (p : Pauli) (w : Row) → p.x ≡ w.x → p.z ≡ w.z → Is (blocker_on p) w
unfolding blocker_on
blocked_on p w ex ez = record { x = ex; z = ez; signed = tt }

sets_of : (p : Pauli) (w : Row) → p ≡ of_row w → (p.x ≡ w.x) × (p.z ≡ w.z)
unfolding of_row
sets_of p w e = (ap (λ (v : Pauli). v.x) e, ap (λ (v : Pauli). v.z) e)

seven_are : (a b t : Pauli) (u v w : Row) → a ≡ of_row u → b ≡ of_row v → t ≡ of_row w → AllAre (map blocker_on (seven a b t)) (seven_rows u v w)
unfolding seven seven_rows together times
seven_are a b t u v w ea eb et =
    let sa : (a.x ≡ u.x) × (a.z ≡ u.z) = sets_of a u ea in
    let sb : (b.x ≡ v.x) × (b.z ≡ v.z) = sets_of b v eb in
    let st : (t.x ≡ w.x) × (t.z ≡ w.z) = sets_of t w et in (
      blocked_on a u sa.0 sa.1,
      (
        blocked_on b v sb.0 sb.1,
        (
          blocked_on _ _ (ap₂ bit_xor sa.0 sb.0) (ap₂ bit_xor sa.1 sb.1),
          (
            blocked_on t w st.0 st.1,
            (
              blocked_on _ _ (ap₂ bit_xor sa.0 st.0) (ap₂ bit_xor sa.1 st.1),
              (
                blocked_on _ _ (ap₂ bit_xor sb.0 st.0) (ap₂ bit_xor sb.1 st.1),
                (blocked_on _ _ (ap₂ bit_xor (ap₂ bit_xor sa.0 sb.0) st.0) (ap₂ bit_xor (ap₂ bit_xor sa.1 sb.1) st.1), tt),
              ),
            ),
          ),
        ),
      ),
    )

-- a blocker on a row of the frame
on_row : (o : Opening) (cs : List Lent) (q : ℕ) → q < (calls cs (opened o)).given.n
    → (z_at paulis (calls cs (opened o)).frame q ≡ of_row (carried o cs kind_z q)) × (x_at paulis (calls cs (opened o)).frame q ≡ of_row (carried o cs kind_x q))
unfolding axis
on_row o cs q u = (frames_are_theirs o cs kind_z q u, frames_are_theirs o cs kind_x q u)

barred : (p : Pauli) (w : Row) → p ≡ of_row w → Is (blocker_on p) w
barred p w e = blocked_on p w (sets_of p w e).0 (sets_of p w e).1

-- a rotation about an axis of the frame
rotation_Is : (o : Opening) (cs : List Lent) (kind : Kind) (q tag : ℕ) → q < (calls cs (opened o)).given.n → Is (rotation_of kind q tag (calls cs (opened o))) (carried o cs kind q)
unfolding rotation_of
rotation_Is o cs kind q tag u =
    let e : ((axis paulis kind q (calls cs (opened o)).frame).x ≡ (carried o cs kind q).x) × ((axis paulis kind q (calls cs (opened o)).frame).z ≡ (carried o cs kind q).z)
    = sets_of _ _ (frames_are_theirs o cs kind q u) in
    record { x = e.0; z = e.1; signed = axis-sign o cs kind q u }

recorded_are : (o : Opening) (cs : List Lent) (c : Call) (w : ℕ) → answer_to c w (calls cs (opened o)) ≡ 0 → AllAre (recorded_by c (calls cs (opened o))) (theirs c (carried o cs))
unfolding recorded_by theirs answer_to
recorded_are o cs (call_open n E A form ws) w h = tt
recorded_are o cs (call_gate f) w h = tt
recorded_are o cs (call_turn kind k q) w h = tt
recorded_are o cs (call_record kind q tag) w h =
    let s : State = calls cs (opened o) in
    let u : q < s.given.n = inside_Mem s.given.n q (q ∷ []) (passed s w 0 (q ∷ []) 1 false h).inside (inl refl) in
    (rotation_Is o cs kind q tag u, tt)
recorded_are o cs (call_measure q) w h =
    let s : State = calls cs (opened o) in
    let u : q < s.given.n = inside_Mem s.given.n q (q ∷ []) (passed s w 0 (q ∷ []) 1 false h).inside (inl refl) in
    (barred _ _ (on_row o cs q u).0, tt)
recorded_are o cs (call_reset q) w h =
    let s : State = calls cs (opened o) in
    let u : q < s.given.n = inside_Mem s.given.n q (q ∷ []) (passed s w 0 (q ∷ []) 2 false h).inside (inl refl) in
    (barred _ _ (on_row o cs q u).0, (barred _ _ (on_row o cs q u).1, tt))
recorded_are o cs (call_ccx a b t) w h =
    let s : State = calls cs (opened o) in
    let p : Passed s w (a ∷ b ∷ t ∷ []) 7 false = passed s w 0 (a ∷ b ∷ t ∷ []) 7 false h in
    let ua : a < s.given.n = inside_Mem s.given.n a (a ∷ b ∷ t ∷ []) p.inside (inl refl) in
    let ub : b < s.given.n = inside_Mem s.given.n b (a ∷ b ∷ t ∷ []) p.inside (inr (inl refl)) in
    let ut : t < s.given.n = inside_Mem s.given.n t (a ∷ b ∷ t ∷ []) p.inside (inr (inr (inl refl))) in
    seven_are _ _ _ _ _ _ (on_row o cs a ua).0 (on_row o cs b ub).0 (on_row o cs t ut).1
recorded_are o cs (call_ccz a b t) w h =
    let s : State = calls cs (opened o) in
    let p : Passed s w (a ∷ b ∷ t ∷ []) 7 false = passed s w 0 (a ∷ b ∷ t ∷ []) 7 false h in
    let ua : a < s.given.n = inside_Mem s.given.n a (a ∷ b ∷ t ∷ []) p.inside (inl refl) in
    let ub : b < s.given.n = inside_Mem s.given.n b (a ∷ b ∷ t ∷ []) p.inside (inr (inl refl)) in
    let ut : t < s.given.n = inside_Mem s.given.n t (a ∷ b ∷ t ∷ []) p.inside (inr (inr (inl refl))) in
    seven_are _ _ _ _ _ _ (on_row o cs a ua).0 (on_row o cs b ub).0 (on_row o cs t ut).0
recorded_are o cs (call_kill id) w h = tt
recorded_are o cs (call_read id) w h = tt
recorded_are o cs call_clear w h = tt
recorded_are o cs (call_look kind q) w h = tt

-- ---- every event

-- an event that is another but for its life is the same row
same_Is : (a b : Event) (w : Row) → SameEvent a b → Is b w → Is a w
same_Is a b w s i = record { x = s.x ∙ i.x; z = s.z ∙ i.z; signed = subst (λ (v : Body). SignOf v (row_sign w.r)) (sym s.body) i.signed }

pub event_Is : (o : Opening) (cs : List Lent) (i : ℕ) (r : Recorded cs (opened o) i)
    → Is (event_at (calls cs (opened o)).events i) (row_at (theirs r.by.call (carried o r.before)) r.place)
event_Is o cs i r =
    same_Is _ _ _ r.same (one_of (recorded_by r.by.call (calls r.before (opened o))) (theirs r.by.call (carried o r.before)) r.place
    (recorded_are o r.before r.by.call r.by.store r.was_accepted) r.there)

pub signed_is : (b : Body) (g : ℤ) → is_rotation b ≡ true → SignOf b g → sign_at b ≡ g
unfolding is_rotation sign_at
signed_is (rotation tag sgn label) g r h = h
signed_is blocker g r h = absurd (false≢true r)
