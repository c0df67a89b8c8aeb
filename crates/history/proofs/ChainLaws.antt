-- Laws of chains: the newest event that a test picks, a chain with a new head, and one without an event. Assumes nothing.
use mathlib.Core.Path.{◌≡◌, refl, sym, ap, ◌∙◌}
use mathlib.Core.Logic.{◌⊎◌, inl, inr, ⊎_elim}
use mathlib.Core.Bool.{Bool, true, false, cond}
use mathlib.Core.List.{List}
use Prim.Native.Nat.{ℕ, zero, suc, ◌+◌, ◌-◌, ◌*◌, ◌%◌, ◌≤◌, ◌<◌}
use native.Mathlib.Nat.{not-suc-le-zero, le_refl, mul-lt-mul_of_pos_right}
use native.Mathlib.Omega.{arith}
use native.Mathlib.Decide.{ℕ_discrete}
use lib.ListN.{length, get_or, set, length-set}
use lib.Seq.{get_or-set_same, get_or-set_other}
use Rattle.model.proofs.Members.{clash}
use Rattle.history.specs.Newest.{head_place, link_place, newest, Chained, Linked, Before, Unlinked}

-- the product of a half word and the number of heads is below that many half words
pub half_times : (low cap : ℕ) → 1 ≤ cap → low % 4294967296 * cap < 4294967296 * cap
half_times low cap h = mul-lt-mul_of_pos_right (omega arith) (omega arith)

-- ---- the newest

module _ (p : ℕ → Bool) where
  pub newest_yes : (i : ℕ) → p i ≡ true → newest p (suc i) ≡ suc i
  unfolding newest
  newest_yes i e = ap (λ (b : Bool). cond b (suc i) (newest p i)) e

  pub newest_no : (i : ℕ) → p i ≡ false → newest p (suc i) ≡ newest p i
  unfolding newest
  newest_no i e = ap (λ (b : Bool). cond b (suc i) (newest p i)) e

  pub newest-le : (n : ℕ) → newest p n ≤ n
  unfolding newest
  newest-le zero = le_refl 0
  newest-le (suc i) = go (newest-le i) (p i) refl
    where
      go : newest p i ≤ i → (b : Bool) → p i ≡ b → newest p (suc i) ≤ suc i
      go h true e = omega (arith, newest_yes i e)
      go h false e = omega (arith, newest_no i e)

  -- an event that is picked is not passed over
  pub newest_ge : (n j : ℕ) → j < n → p j ≡ true → suc j ≤ newest p n
  newest_ge zero j h e = absurd (not-suc-le-zero h)
  newest_ge (suc i) j h e = go (λ k. newest_ge i j k e) (p i) refl
    where
      go : (j < i → suc j ≤ newest p i) → (b : Bool) → p i ≡ b → suc j ≤ newest p (suc i)
      go ih true y = omega (arith, newest_yes i y)
      go ih false y =
          elim (ℕ_discrete j i) [
            | yes d ↦ clash (p i) (ap p (sym d) ∙ e) y
            | no d ↦ omega (arith, newest_no i y, ih (omega arith))
          ]

  -- what is named is picked
  pub newest_hit : (n j : ℕ) → newest p n ≡ suc j → (j < n) × (p j ≡ true)
  unfolding newest
  newest_hit zero j e = absurd (omega arith)
  newest_hit (suc i) j e = go (λ k. newest_hit i j k) (p i) refl
    where
      go : (newest p i ≡ suc j → (j < i) × (p j ≡ true)) → (b : Bool) → p i ≡ b → (j < suc i) × (p j ≡ true)
      go ih true y = let d : i ≡ j = omega (arith, newest_yes i y, e) in (omega arith, ap p (sym d) ∙ y)
      go ih false y = let r = ih (sym (newest_no i y) ∙ e) in (omega (arith, r.0), r.1)

  -- between what is named and n nothing is picked
  pub newest_gap : (n j : ℕ) → newest p n ≤ j → j < n → p j ≡ false
  newest_gap n j l h = go (p j) refl
    where
      go : (b : Bool) → p j ≡ b → p j ≡ false
      go true e = absurd (omega (arith, newest_ge n j h e))
      go false e = e

pub newest_same : (p q : ℕ → Bool) (n : ℕ) → ((i : ℕ) → i < n → p i ≡ q i) → newest p n ≡ newest q n
unfolding newest
newest_same p q zero h = refl
newest_same p q (suc i) h =
    let r : newest p i ≡ newest q i = newest_same p q i (λ j l. h j (omega arith)) in
    ap (λ (b : Bool). cond b (suc i) (newest p i)) (h i (le_refl (suc i))) ∙ ap (λ (m : ℕ). cond (q i) (suc i) m) r

-- ---- one event fewer: q picks what p picks, but not id
module _ (p q : ℕ → Bool) (id : ℕ) (gone : q id ≡ false) (same : (i : ℕ) → (i ≡ id → ⊥) → q i ≡ p i) where
  without : (i : ℕ) → p i ≡ false → q i ≡ false
  without i e = elim (ℕ_discrete i id) [
    | yes d ↦ ap q d ∙ gone
    | no d ↦ same i d ∙ e
  ]

  pub fewer_other : (n : ℕ) → (newest p n ≡ suc id → ⊥) → newest q n ≡ newest p n
  unfolding newest
  fewer_other zero h = refl
  fewer_other (suc i) h = go (λ k. fewer_other i k) (p i) refl
    where
      go : ((newest p i ≡ suc id → ⊥) → newest q i ≡ newest p i) → (b : Bool) → p i ≡ b → newest q (suc i) ≡ newest p (suc i)
      go ih true e =
          let d : i ≡ id → ⊥ = λ f. h (newest_yes p i e ∙ ap suc f) in
          newest_yes q i (same i d ∙ e) ∙ sym (newest_yes p i e)
      go ih false e =
          newest_no q i (without i e) ∙ ih (λ f. h (newest_no p i e ∙ f)) ∙ sym (newest_no p i e)

  pub fewer_here : (n : ℕ) → newest p n ≡ suc id → newest q n ≡ newest p id
  unfolding newest
  fewer_here zero h = absurd (omega arith)
  fewer_here (suc i) h = go (λ k. fewer_here i k) (p i) refl
    where
      go : (newest p i ≡ suc id → newest q i ≡ newest p id) → (b : Bool) → p i ≡ b → newest q (suc i) ≡ newest p id
      go ih true e =
          let d : i ≡ id = omega (arith, newest_yes p i e, h) in
          newest_no q i (ap q d ∙ gone) ∙ ap (newest q) d ∙ newest_same q p id (λ j l. same j (λ f. omega arith))
      go ih false e = newest_no q i (without i e) ∙ ih (sym (newest_no p i e) ∙ h)

-- ---- a new head

module _ (h : List ℕ) (cap k id : ℕ) (room : 2 + 2 * cap ≤ length h) (there : k < cap) (small : id < cap) where
  pub linked : Linked h cap k id (set (set h (2 + cap + id) (get_or h (2 + k) 0)) (2 + k) (id + 1))
  linked = record {
    head = get_or-set_same g (2 + k) (id + 1) 0 (simp length-set (omega arith));
    link = get_or-set_other g (2 + k) (2 + cap + id) (id + 1) 0 (λ e. omega arith) ∙ get_or-set_same h (2 + cap + id) (get_or h (2 + k) 0) 0 (omega arith);
    other = λ j a b. get_or-set_other g (2 + k) j (id + 1) 0 a ∙ get_or-set_other h (2 + cap + id) j (get_or h (2 + k) 0) 0 b;
    long = length-set g (2 + k) (id + 1) ∙ length-set h (2 + cap + id) (get_or h (2 + k) 0);
  }
    where
      g : List ℕ
      g = set h (2 + cap + id) (get_or h (2 + k) 0)

-- ---- the walk to an event's place

-- where the walk stands: at cell c, which says v, behind the event `last` - 1 or at the head
pub record Walking (p : ℕ → Bool) (n cap k id : ℕ) (c v bound : ℕ) : Type 0 where
  pub upper : ℕ
  pub says : v ≡ newest p upper
  pub below : upper < bound
  pub above : id < upper
  pub place : ((c ≡ head_place k) × (upper ≡ n)) ⊎ ((c ≡ link_place cap upper) × (upper < n) × (p upper ≡ true))

module _ (p : ℕ → Bool) (n cap k id : ℕ) (h : List ℕ) (few : n ≤ cap) (chain : Chained p n cap k h) (in_it : id < n) (picked : p id ≡ true) where
  pub walk_begins : Walking p n cap k id (2 + k) (get_or h (2 + k) 0) (cap + 1)
  walk_begins = record { upper = n; says = chain.head; below = omega arith; above = in_it; place = inl (refl, refl) }

  module _ (c v bound : ℕ) (w : Walking p n cap k id c v bound) where
    -- the chain falls, and comes to the event
    pub walk_falls : v < bound
    walk_falls = omega (arith, w.says, w.below, newest-le p w.upper)

    pub walk_reaches : id + 1 ≤ v
    walk_reaches = omega (arith, w.says, newest_ge p w.upper id w.above picked)

    pub walk_goes : id + 1 < v → Walking p n cap k id (2 + cap + (v - 1)) (get_or h (2 + cap + (v - 1)) 0) v
    walk_goes far =
        let e : newest p w.upper ≡ suc (v - 1) = omega (arith, w.says) in
        let t = newest_hit p w.upper (v - 1) e in
        let in_n : v - 1 < n = ⊎_elim (λ q. omega (arith, t.0, q.1)) (λ q. omega (arith, t.0, q.1)) w.place in
        record {
          upper = v - 1;
          says = chain.link (v - 1) in_n t.1;
          below = omega arith;
          above = omega arith;
          place = inr (refl, in_n, t.1);
        }

    pub walk_ends : v ≡ id + 1 → Before p n cap k id c
    walk_ends e = record { upper = w.upper; next = omega (arith, w.says); place = w.place }

-- ---- chains after that

-- a cell behind which the event id stands, with what stood behind that
pub unlinked : (p : ℕ → Bool) (n cap k id c : ℕ) (h : List ℕ) → 2 + 2 * cap ≤ length h → c < 2 + 2 * cap → Chained p n cap k h → id < n → p id ≡ true → Before p n cap k id c
    → Unlinked p n cap k id h (set h c (get_or h (2 + cap + id) 0))
unlinked p n cap k id c h room there chain in_it picked b = record {
  cell = c;
  before = b;
  here = get_or-set_same h c (get_or h (2 + cap + id) 0) 0 (omega arith) ∙ chain.link id in_it picked;
  other = λ j d. get_or-set_other h c j (get_or h (2 + cap + id) 0) 0 d;
}
