-- Laws of a turn of phase 1 on words that hold a state. Assumes nothing.
use Rattle.std.proofs.Common.{IsTrue, ◌↔◌}
use mathlib.Core.Path.{◌≡◌, refl, sym, ap, ◌∙◌, subst}
use mathlib.Core.Bool.{Bool, true, false}
use mathlib.Core.List.{List}
use Prim.Native.Nat.{ℕ, suc, ◌+◌, ◌-◌, ◌*◌, ◌≤◌, ◌<◌}
use native.Mathlib.Omega.{arith}
use lib.ListN.{length, get_or, take, drop}
use Rattle.model.specs.Sketch.{Label}
use Rattle.model.specs.Events.{Form, Body, rotation, State, event_at}
use Rattle.model.specs.Search.{Work, Walk, walk, candidate, same_axis, phase1}
use Rattle.model.proofs.Good.{live_there}
use Rattle.pauli.specs.Rows.{of_row}
use Rattle.lists.specs.Scans.{steps}
use Rattle.lists.specs.declared.budget.Budget.{Budget}
use Rattle.std.proofs.Common.{Result, IsOkAnd}
use Rattle.pauli.specs.declared.corrupt.Corrupt.{Corrupt}
use Rattle.history.specs.declared.findings.Candidate.{Candidate}
use Rattle.history.specs.declared.findings.Candidate.TheVariants.{Match, Nothing, Out}
use Rattle.history.specs.declared.search.Visit.{Visit}
use Rattle.history.specs.declared.search.Visit.TheVariants.{On, Stop}
use Rattle.history.specs.Newest.{bucket_of, link_place, newest}
use Rattle.history.specs.Words.{label_place, axis_place, LabelAt, in_bucket, Holds}
use Rattle.history.specs.Phases.{candidate_of, label_of, older, Onward, Met, Turn}
use Rattle.history.proofs.ChainLaws.{newest-le, newest_hit}
use Rattle.history.proofs.AxisWords.{part_long, axis_compared}
use Rattle.history.proofs.PhaseOne.{Rotates, rotates, label_same, high_differs, low_differs, older_all, older_none, older-cleared, older_other, older_skip, this_dry, this_stops, this_past}

-- a budget is its number of steps
pub budget_is : (b : Budget) → b ≡ steps b.0
unfolding steps
budget_is b = refl

module _ (f : Form) (n : ℕ) (m : State) (cap l events cleared high low x z cur : ℕ) (h : List ℕ) (pos : 1 ≤ cur) (met : Met f n m cap l events cleared low (cur - 1) h) where
  abbrev i : ℕ
  i = cur - 1

  abbrev a : Label
  a = label_of high low

  abbrev p : ℕ → Bool
  p = in_bucket cap (bucket_of cap low) m.events

  rot : Rotates cap (bucket_of cap low) m.events i
  rot = rotates cap (bucket_of cap low) m.events i met.picked

  here : (n : ℕ) → walk (older m a x z cur) n ≡ walk (older m a x z (suc i)) n
  here n = let e : cur ≡ suc (cur - 1) = omega arith in ap (λ (k : ℕ). walk (older m a x z k) n) e

  pub met_there : i < events
  met_there = omega (arith, live_there m.events i rot.live, met.count)

  label_words_lem : LabelAt h (label_place cap i) (rotation rot.tag rot.sgn rot.label)
  label_words_lem =
      subst (λ (b : Body). LabelAt h (label_place cap i) b) rot.is (met.holds.bodies.label i (omega (arith, met_there, met.count)))

  pub met_link : get_or h (link_place cap i) 0 ≡ newest p i
  met_link = (met.holds.chains (bucket_of cap low) met.bucket).link i (omega (arith, met_there, met.count)) met.picked

  -- the code's comparison of the axis in the words with another
  pub met_compared : (axis : List ℕ) → length axis ≡ 2 * l → axis_place cap + i * (2 * l) + 2 * l ≤ length h → (r : Bool)
      → (length (take (axis_place cap + i * (2 * l) + 2 * l - (axis_place cap + i * (2 * l))) (drop (axis_place cap + i * (2 * l)) h)) ≡ length axis
      → IsTrue r ↔ (of_row 0 (take (axis_place cap + i * (2 * l) + 2 * l - (axis_place cap + i * (2 * l))) (drop (axis_place cap + i * (2 * l)) h)) ≡ of_row 0 axis))
      → same_axis (of_row 0 axis).x (of_row 0 axis).z (event_at m.events i) ≡ r
  met_compared axis long room r d =
      let there : i < length m.events = omega (arith, met_there, met.count) in
      axis_compared h axis (axis_place cap + i * (2 * l)) l (event_at m.events i) room (met.holds.axed.xs i there) (met.holds.axed.zs i there) r
      (d (part_long (axis_place cap + i * (2 * l)) (2 * l) h room ∙ sym long))

  -- ---- what is left after the event

  module _ (left : Budget) where
    -- it goes on with the next of the bucket
    pub Turn-Onward : (rest : Budget) (r : Result Visit Corrupt) → walk (older m a x z (suc i)) left.0 ≡ walk (older m a x z i) rest.0 → Onward h cap cur rest r
        → IsOkAnd r (Turn m cap high low x z cur left)
    Turn-Onward rest r e on =
        let falls : get_or h (link_place cap i) 0 < cur = omega (arith, met_link, newest-le p i) in
        subst (λ (v : Result Visit Corrupt). IsOkAnd v (Turn m cap high low x z cur left)) (sym (on.falls falls))
        (met_link, here left.0 ∙ e ∙ ap (λ (ws : List Work). walk ws rest.0) (older_skip m cap high low x z i) ∙ ap (λ (k : ℕ). walk (older m a x z k) rest.0) (sym met_link))

    pub Turn-cleared : i < cleared → Turn m cap high low x z cur left (Stop (Nothing left))
    unfolding candidate_of steps walk
    Turn-cleared b = sym (ap candidate_of (here left.0) ∙ ap (λ (ws : List Work). candidate_of (walk ws left.0)) (older-cleared m a x z i (omega (arith, b, met.past))))

    -- an event of another label costs nothing
    pub high-Onward : (r : Result Visit Corrupt) → (get_or h (label_place cap i) 0 ≡ high → ⊥) → Onward h cap cur left r → IsOkAnd r (Turn m cap high low x z cur left)
    high-Onward r d on =
        Turn-Onward left r
        (ap (λ (ws : List Work). walk ws left.0) (older_other m a x z i (high_differs high low m.events i rot.tag rot.sgn rot.label rot.is rot.live (λ e. d (label_words_lem.0 ∙ e))))) on

    pub low-Onward : (r : Result Visit Corrupt) → get_or h (label_place cap i) 0 ≡ high → (get_or h (label_place cap i + 1) 0 ≡ low → ⊥) → Onward h cap cur left r → IsOkAnd r (Turn m cap high low x z cur left)
    low-Onward r e d on =
        Turn-Onward left r
        (ap (λ (ws : List Work). walk ws left.0)
        (older_other m a x z i (low_differs high low m.events i rot.tag rot.sgn rot.label rot.is rot.live (sym label_words_lem.0 ∙ e) (λ f. d (label_words_lem.1 ∙ f))))) on

    -- an event of this label, since the last clear, costs a step
    module _ (since : cleared ≤ i) (eh : get_or h (label_place cap i) 0 ≡ high) (el : get_or h (label_place cap i + 1) 0 ≡ low) where
      cand : candidate m.events a i ≡ true
      cand = label_same high low m.events i rot.tag rot.sgn rot.label rot.is rot.live (sym label_words_lem.0 ∙ eh) (sym label_words_lem.1 ∙ el)

      past : m.cleared ≤ i
      past = omega (arith, since, met.past)

      pub Turn-dry : left.0 < 1 → Turn m cap high low x z cur left (Stop (Out left))
      unfolding candidate_of steps
      Turn-dry b = sym (ap candidate_of (here left.0 ∙ this_dry m a x z i left.0 past cand b))

      module _ (rest : Budget) (paid : rest.0 ≡ left.0 - 1) (enough : 1 ≤ left.0) where
        pub turn_match : same_axis x z (event_at m.events i) ≡ true → Turn m cap high low x z cur left (Stop (Match i rest))
        unfolding candidate_of steps
        turn_match s =
            ap (λ (n : ℕ). Match i (steps n)) paid ∙ sym (ap candidate_of (here left.0 ∙ this_stops m a x z i left.0 past cand enough s))

        pub Turn-past : (r : Result Visit Corrupt) → same_axis x z (event_at m.events i) ≡ false → Onward h cap cur rest r → IsOkAnd r (Turn m cap high low x z cur left)
        Turn-past r s on =
            Turn-Onward rest r (this_past m a x z i left.0 past cand enough s ∙ ap (λ (n : ℕ). walk (older m a x z i) n) (sym paid)) on

-- ---- the walk of a bucket

-- at cur: what is left of the phase, and that event cur - 1 is in the bucket
pub record Cursor (m : State) (cap high low x z : ℕ) (whole : Walk) (cur : ℕ) (left : Budget) : Type 0 where
  pub same : whole ≡ walk (older m (label_of high low) x z cur) left.0
  pub picked : 0 < cur → in_bucket cap (bucket_of cap low) m.events (cur - 1) ≡ true

module _ (m : State) (cap high low x z : ℕ) (whole : Walk) where
  abbrev p' : ℕ → Bool
  p' = in_bucket cap (bucket_of cap low) m.events

  at_newest : (n : ℕ) (left : Budget) → whole ≡ walk (older m (label_of high low) x z (newest p' n)) left.0 → Cursor m cap high low x z whole (newest p' n) left
  at_newest n left e = record {
    same = e;
    picked = λ b. let s : newest p' n ≡ suc (newest p' n - 1) = omega arith in (newest_hit p' n (newest p' n - 1) s).1;
  }

  pub Cursor-begins : (f : Form) (n l : ℕ) (h : List ℕ) (budget : Budget) → Holds f n cap l m h → bucket_of cap low < cap
      → whole ≡ walk (phase1 m (label_of high low) x z) budget.0 → Cursor m cap high low x z whole (get_or h (2 + bucket_of cap low) 0) budget
  Cursor-begins f n l h budget holds b w =
      subst (λ (c : ℕ). Cursor m cap high low x z whole c budget) (sym (holds.chains (bucket_of cap low) b).head)
      (at_newest (length m.events) budget
      (w ∙ ap (λ (ws : List Work). walk ws budget.0) (older_all m (label_of high low) x z ∙ older_skip m cap high low x z (length m.events))))

  pub Cursor-goes : (cur next : ℕ) (left rest : Budget) → Cursor m cap high low x z whole cur left → Turn m cap high low x z cur left (On next rest) → Cursor m cap high low x z whole next rest
  Cursor-goes cur next left rest c t =
      subst (λ (k : ℕ). Cursor m cap high low x z whole k rest) (sym t.0)
      (at_newest (cur - 1) rest (c.same ∙ t.1 ∙ ap (λ (k : ℕ). walk (older m (label_of high low) x z k) rest.0) t.0))

  pub Cursor-stops : (cur : ℕ) (left : Budget) (found : Candidate) → Cursor m cap high low x z whole cur left → Turn m cap high low x z cur left (Stop found) → found ≡ candidate_of whole
  Cursor-stops cur left found c t = t ∙ ap candidate_of (sym c.same)

  pub Cursor-ends : (cur : ℕ) (left : Budget) → cur ≡ 0 → Cursor m cap high low x z whole cur left → Nothing left ≡ candidate_of whole
  unfolding candidate_of steps walk
  Cursor-ends cur left e c =
      ap (λ (ws : List Work). candidate_of (walk ws left.0)) (sym (ap (older m (label_of high low) x z) e ∙ older_none m (label_of high low) x z)) ∙ ap candidate_of (sym c.same)
