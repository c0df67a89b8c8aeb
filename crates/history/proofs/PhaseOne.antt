-- Laws of phase 1: what is left of it at an event, and which events of a bucket it passes over. Assumes nothing.
use mathlib.Core.Path.{◌≡◌, refl, sym, ap, ◌∙◌}
use mathlib.Core.Bool.{Bool, true, false, ◌&&◌}
use mathlib.Core.List.{List, [], ◌∷◌, map}
use Prim.Native.Nat.{ℕ, zero, suc, ◌+◌, ◌-◌, ◌≤◌, ◌<◌}
use native.Mathlib.Omega.{arith}
use native.Mathlib.Decide.{dec_lt}
use lib.ListN.{length}
use lib.Dec.{eqb}
use lib.IntN.{ℤ}
use borrow.Author.Tests.{lt-ltb, le-ltb, eq-eqb, ne_eqb, eqb-true}
use Rattle.model.specs.Sketch.{Label, same_label}
use Rattle.model.specs.Events.{Body, rotation, blocker, Event, State, keep, event_at, live_at}
use Rattle.model.specs.Search.{Work, stopped, dry, walk, down, recent, has_label, candidate, same_axis, phase1}
use Rattle.model.proofs.Members.{clash, and_both, keep_yes, keep_no}
use Rattle.history.specs.Newest.{bucket_of, newest}
use Rattle.history.specs.Words.{body_in, in_bucket}
use Rattle.history.specs.Phases.{label_of, older}
use Rattle.history.proofs.ChainLaws.{newest_yes, newest_no}

-- ---- an event of a bucket

-- it is a live rotation whose label falls into the bucket
pub record Rotates (cap k : ℕ) (es : List Event) (i : ℕ) : Type 0 where
  pub tag : ℕ
  pub sgn : ℤ
  pub label : Label
  pub is : (event_at es i).body ≡ rotation tag sgn label
  pub bucket : bucket_of cap label.low ≡ k
  pub live : live_at es i ≡ true

body_rotates : (cap k : ℕ) (b : Body) → body_in cap k b ≡ true → (tag : ℕ) × (sgn : ℤ) × (label : Label) × (b ≡ rotation tag sgn label) × (bucket_of cap label.low ≡ k)
unfolding body_in
body_rotates cap k (rotation tag sgn label) e = (tag, sgn, label, refl, eqb-true _ _ e)
body_rotates cap k blocker e = clash false e refl

pub rotates : (cap k : ℕ) (es : List Event) (i : ℕ) → in_bucket cap k es i ≡ true → Rotates cap k es i
unfolding in_bucket
rotates cap k es i e =
    let both = and_both (live_at es i) (body_in cap k (event_at es i).body) e in
    let b = body_rotates cap k (event_at es i).body both.1 in
    record { tag = b.0; sgn = b.1; label = b.2; is = b.3; bucket = b.4; live = both.0 }

-- an event with the present label is in the present bucket
has_bucket : (cap high low : ℕ) (b : Body) → has_label (label_of high low) b ≡ true → body_in cap (bucket_of cap low) b ≡ true
unfolding has_label body_in label_of same_label
has_bucket cap high low (rotation tag sgn label) e =
    let both = and_both (eqb high label.high) (eqb low label.low) e in
    eq-eqb _ _ (ap (bucket_of cap) (sym (eqb-true _ _ both.1)))
has_bucket cap high low blocker e = clash false e refl

pub candidate_bucket : (cap high low : ℕ) (es : List Event) (i : ℕ) → in_bucket cap (bucket_of cap low) es i ≡ false → candidate es (label_of high low) i ≡ false
unfolding candidate in_bucket
candidate_bucket cap high low es i out = go (live_at es i && has_label (label_of high low) (event_at es i).body) refl
  where
    go : (b : Bool) → (live_at es i && has_label (label_of high low) (event_at es i).body) ≡ b → (live_at es i && has_label (label_of high low) (event_at es i).body) ≡ false
    go false e = e
    go true e =
        let both = and_both (live_at es i) (has_label (label_of high low) (event_at es i).body) e in
        clash (live_at es i && body_in cap (bucket_of cap low) (event_at es i).body)
        (simp (both.0, has_bucket cap high low (event_at es i).body both.1)) out

-- whether it is a candidate, by its label's words
module _ (high low : ℕ) (es : List Event) (i tag : ℕ) (sgn : ℤ) (label : Label) (is : (event_at es i).body ≡ rotation tag sgn label) (live : live_at es i ≡ true) where
  pub label_same : label.high ≡ high → label.low ≡ low → candidate es (label_of high low) i ≡ true
  unfolding candidate has_label label_of same_label
  label_same e f = simp (live, is, eq-eqb high label.high (sym e), eq-eqb low label.low (sym f))

  pub high_differs : (label.high ≡ high → ⊥) → candidate es (label_of high low) i ≡ false
  unfolding candidate has_label label_of same_label
  high_differs d = simp (live, is, ne_eqb high label.high (λ e. d (sym e)))

  pub low_differs : label.high ≡ high → (label.low ≡ low → ⊥) → candidate es (label_of high low) i ≡ false
  unfolding candidate has_label label_of same_label
  low_differs e d = simp (live, is, eq-eqb high label.high (sym e), ne_eqb low label.low (λ f. d (sym f)))

-- ---- what is left of the phase

abbrev work : State → (x z : ℕ) → ℕ → Work
work m x z id = record { cost = 1; stops = same_axis x z (event_at m.events id); id = id }

module _ (m : State) (a : Label) (x z : ℕ) where
  pub older_all : phase1 m a x z ≡ older m a x z (length m.events)
  unfolding phase1 older recent
  older_all = refl

  pub older_none : older m a x z 0 ≡ []
  unfolding older down keep
  older_none = let e : 0 - m.cleared ≡ 0 = omega arith in ap (λ (k : ℕ). map (work m x z) (keep (candidate m.events a) (down m.cleared k))) e

  -- an event before the last clear ends it
  pub older-cleared : (i : ℕ) → i < m.cleared → older m a x z (suc i) ≡ []
  unfolding older down keep
  older-cleared i h = let e : suc i - m.cleared ≡ 0 = omega arith in ap (λ (k : ℕ). map (work m x z) (keep (candidate m.events a) (down m.cleared k))) e

  older_more : (i : ℕ) → m.cleared ≤ i → older m a x z (suc i) ≡ map (work m x z) (keep (candidate m.events a) (i ∷ down m.cleared (i - m.cleared)))
  unfolding older down
  older_more i h =
      let e : suc i - m.cleared ≡ suc (i - m.cleared) = omega arith in
      let f : m.cleared + (i - m.cleared) ≡ i = omega arith in
      ap (λ (k : ℕ). map (work m x z) (keep (candidate m.events a) (down m.cleared k))) e
      ∙ ap (λ (j : ℕ). map (work m x z) (keep (candidate m.events a) (j ∷ down m.cleared (i - m.cleared)))) f

  pub older_other : (i : ℕ) → candidate m.events a i ≡ false → older m a x z (suc i) ≡ older m a x z i
  unfolding older
  older_other i e = elim (dec_lt i m.cleared) [
    | yes h ↦
        let k : i - m.cleared ≡ suc i - m.cleared = omega arith in
        ap (λ (j : ℕ). map (work m x z) (keep (candidate m.events a) (down m.cleared j))) (sym k)
    | no h ↦ older_more i (omega arith) ∙ ap (map (work m x z)) (keep_no (candidate m.events a) i (down m.cleared (i - m.cleared)) e)
  ]

  older_this : (i : ℕ) → m.cleared ≤ i → candidate m.events a i ≡ true → older m a x z (suc i) ≡ work m x z i ∷ older m a x z i
  unfolding older
  older_this i h e = older_more i h ∙ ap (map (work m x z)) (keep_yes (candidate m.events a) i (down m.cleared (i - m.cleared)) e)

  -- a candidate costs a step, and ends the phase where it has the same axis
  module _ (i n : ℕ) (h : m.cleared ≤ i) (e : candidate m.events a i ≡ true) where
    pub this_dry : n < 1 → walk (older m a x z (suc i)) n ≡ dry n
    unfolding walk
    this_dry l = ap (λ (ws : List Work). walk ws n) (older_this i h e) ∙ simp (lt-ltb n 1 l)

    pub this_stops : 1 ≤ n → same_axis x z (event_at m.events i) ≡ true → walk (older m a x z (suc i)) n ≡ stopped i (n - 1)
    unfolding walk
    this_stops l s = ap (λ (ws : List Work). walk ws n) (older_this i h e) ∙ simp (le-ltb n 1 l, s)

    pub this_past : 1 ≤ n → same_axis x z (event_at m.events i) ≡ false → walk (older m a x z (suc i)) n ≡ walk (older m a x z i) (n - 1)
    unfolding walk
    this_past l s = ap (λ (ws : List Work). walk ws n) (older_this i h e) ∙ simp (le-ltb n 1 l, s)

-- events that are not in the bucket are passed over
pub older_skip : (m : State) (cap high low x z n : ℕ)
    → older m (label_of high low) x z n ≡ older m (label_of high low) x z (newest (in_bucket cap (bucket_of cap low) m.events) n)
unfolding newest
older_skip m cap high low x z zero = refl
older_skip m cap high low x z (suc i) = go (older_skip m cap high low x z i) (p i) refl
  where
    p : ℕ → Bool
    p = in_bucket cap (bucket_of cap low) m.events

    go : older m (label_of high low) x z i ≡ older m (label_of high low) x z (newest p i) → (b : Bool) → p i ≡ b
        → older m (label_of high low) x z (suc i) ≡ older m (label_of high low) x z (newest p (suc i))
    go ih true e = ap (older m (label_of high low) x z) (sym (newest_yes p i e))
    go ih false e =
        older_other m (label_of high low) x z i (candidate_bucket cap high low m.events i e) ∙ ih ∙ ap (older m (label_of high low) x z) (sym (newest_no p i e))
