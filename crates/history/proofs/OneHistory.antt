-- What the history's words hold determines every word that is in use: two exits of a call, from the same words and to the same state, are equal.
-- Assumes nothing.
use mathlib.Core.Path.{◌≡◌, refl, sym, ap, ◌∙◌, subst}
use mathlib.Core.Logic.{⊎_elim}
use mathlib.Core.Bool.{Bool, true, false, ◌&&◌}
use mathlib.Core.List.{List, map}
use Prim.Native.Nat.{ℕ, ◌+◌, ◌-◌, ◌*◌, ◌/◌, ◌%◌, ◌^◌, ◌≤◌, ◌<◌}
use native.Mathlib.Nat.{mod-lt, div-add-mod', div-lt_iff_lt-mul}
use native.Mathlib.Omega.{arith}
use native.Mathlib.Decide.{ℕ_discrete, dec_lt}
use lib.ListN.{length, get_or, length-map}
use lib.Seq.{ext_get_or}
use borrow.Author.Tests.{eq-eqb}
use Rattle.model.specs.Pauli.{has}
use Rattle.model.specs.Events.{Body, rotation, blocker, Event, Form, scalar, sliced, State, words, event_at, live_at}
use Rattle.model.specs.Search.{list_at}
use Rattle.model.specs.Store.{list_count}
use Rattle.pauli.specs.Rows.{value_at}
use Rattle.pauli.proofs.Digits.{has_ext}
use Rattle.pauli.proofs.RowLaws.{value_words}
use Rattle.lists.specs.Lists.{Among, Counts, live_in}
use Rattle.lists.specs.Scalars.{Scalar, UsedScalar}
use Rattle.lists.specs.Scans.{Axed}
use Rattle.sliced.specs.Blocks.{Entry, entry_of, sliced_room, mask_place, live_place, Reps, Sliced, UsedBlocks, UsedSliced}
use Rattle.history.specs.Newest.{bucket_of, link_place}
use Rattle.history.specs.Words.{label_place, tag_place, sig_place, axis_place, alive_place, count_place, list_place, LabelAt, Alive, body_in, in_bucket, OfBody, OfEvent, OfLists, ListsIn, Holds, Uses, Becomes}
use Rattle.history.proofs.StoreLaws.{bucket_lt}

-- a live rotation is in its own bucket
in_its_bucket : (cap b : ℕ) (es : List Event) (i : ℕ) → (event_at es i).live ≡ true → body_in cap b (event_at es i).body ≡ true → in_bucket cap b es i ≡ true
unfolding in_bucket live_at
in_its_bucket cap b es i v t = ap (λ (u : Bool). u && body_in cap b (event_at es i).body) v ∙ t

-- digit j of the word a + o, by the number o * 64 + j
at_digit : (s : List ℕ) (a o j e : ℕ) → e / 64 ≡ o → e % 64 ≡ j → has (get_or s (a + o) 0) j ≡ live_in s a e
at_digit s a o j e w r = ap (λ (x : ℕ). has (get_or s (a + x) 0) j) (sym w) ∙ ap (λ (x : ℕ). has (get_or s (a + e / 64) 0) x) (sym r)

module _ (h g : List ℕ) (fh : (i : ℕ) → get_or h i 0 < 2 ^ 64) (fg : (i : ℕ) → get_or g i 0 < 2 ^ 64) where
  -- at an index that is known by an equation
  same_at : (i j : ℕ) → i ≡ j → get_or h j 0 ≡ get_or g j 0 → get_or h i 0 ≡ get_or g i 0
  same_at i j e q = ap (λ (k : ℕ). get_or h k 0) e ∙ q ∙ sym (ap (λ (k : ℕ). get_or g k 0) e)

  -- by the digits of the word
  same_digits : (i : ℕ) → ((j : ℕ) → j < 64 → has (get_or h i 0) j ≡ has (get_or g i 0) j) → get_or h i 0 ≡ get_or g i 0
  same_digits i e = has_ext 64 (get_or h i 0) (get_or g i 0) (fh i) (fg i) e

  -- by the number that l words write
  same_value : (l a v k : ℕ) → value_at h a l ≡ v → value_at g a l ≡ v → Among a l k → get_or h k 0 ≡ get_or g k 0
  same_value l a v k p q t = same_at k (a + (k - a)) (omega arith) (value_words h g l a a fh fg (p ∙ sym q) (k - a) (omega arith))

  -- two words
  same_two : (a k : ℕ) → get_or h a 0 ≡ get_or g a 0 → get_or h (a + 1) 0 ≡ get_or g (a + 1) 0 → Among a 2 k → get_or h k 0 ≡ get_or g k 0
  same_two a k p q t = elim (ℕ_discrete k a) [
    | yes e ↦ same_at k a e p
    | no e ↦ same_at k (a + 1) (omega arith) q
  ]

  -- ---- events

  body_one : (b : Body) (live : Bool) (cap i k : ℕ) → 1 ≤ cap → LabelAt h (label_place cap i) b → LabelAt g (label_place cap i) b
      → ((c : ℕ) → c < cap → live ≡ true → body_in cap c b ≡ true → get_or h (link_place cap i) 0 ≡ get_or g (link_place cap i) 0) → OfBody b live cap i k → get_or h k 0 ≡ get_or g k 0
  unfolding body_in
  body_one (rotation tag sgn label) true cap i k some p q link u =
      ⊎_elim (λ (e : k ≡ link_place cap i). same_at k (link_place cap i) e (link (bucket_of cap label.low) (bucket_lt cap label.low some) refl (eq-eqb (bucket_of cap label.low) (bucket_of cap label.low) refl)))
      (same_two (label_place cap i) k (p.0 ∙ sym q.0) (p.1 ∙ sym q.1)) u
  body_one (rotation tag sgn label) false cap i k some p q link u = same_two (label_place cap i) k (p.0 ∙ sym q.0) (p.1 ∙ sym q.1) u
  body_one blocker live cap i k some p q link u = absurd u

  axis_one : (cap l i k : ℕ) (es : List Event) → i < length es → Axed l es h (axis_place cap) → Axed l es g (axis_place cap) → Among (axis_place cap + i * (2 * l)) (2 * l) k → get_or h k 0 ≡ get_or g k 0
  axis_one cap l i k es lt p q t = elim (dec_lt k (axis_place cap + i * (2 * l) + l)) [
    | yes d ↦ same_value l (axis_place cap + i * (2 * l)) (event_at es i).x k (p.xs i lt) (q.xs i lt) (omega arith, omega arith)
    | no d ↦ same_value l (axis_place cap + i * (2 * l) + l) (event_at es i).z k (p.zs i lt) (q.zs i lt) (omega arith, omega arith)
  ]

  event_one : (f : Form) (n cap l : ℕ) (m : State) → Holds f n cap l m h → Holds f n cap l m g → (i k : ℕ) → i < length m.events → OfEvent (event_at m.events i) cap l i k → get_or h k 0 ≡ get_or g k 0
  event_one f n cap l m p q i k lt u =
      ⊎_elim (body_one (event_at m.events i).body (event_at m.events i).live cap i k (omega (arith, p.room)) (p.bodies.label i lt) (q.bodies.label i lt) link)
      (⊎_elim (λ (e : k ≡ tag_place cap i). same_at k (tag_place cap i) e (p.bodies.tag i lt ∙ sym (q.bodies.tag i lt)))
      (⊎_elim (λ (e : k ≡ sig_place cap + i). same_at k (sig_place cap + i) e (p.signed i lt ∙ sym (q.signed i lt)))
      (axis_one cap l i k m.events lt p.axed q.axed))) u
    where
      link : (c : ℕ) → c < cap → (event_at m.events i).live ≡ true → body_in cap c (event_at m.events i).body ≡ true → get_or h (link_place cap i) 0 ≡ get_or g (link_place cap i) 0
      link c lc v t =
          let b : in_bucket cap c m.events i ≡ true = in_its_bucket cap c m.events i v t in
          (p.chains c lc).link i lt b ∙ sym ((q.chains c lc).link i lt b)

  Alive-one : (a k : ℕ) (es : List Event) → Alive a es h → Alive a es g → Among a (words (length es)) k → get_or h k 0 ≡ get_or g k 0
  Alive-one a k es p q t = same_at k (a + (k - a)) (omega arith) (same_digits (a + (k - a)) digit)
    where
      digit : (j : ℕ) → j < 64 → has (get_or h (a + (k - a)) 0) j ≡ has (get_or g (a + (k - a)) 0) j
      digit j lj =
          let e : ℕ = (k - a) * 64 + j in
          let le : e < words (length es) * 64 = omega arith in
          let w : e / 64 ≡ k - a = omega arith in
          let r : e % 64 ≡ j = omega arith in
          at_digit h a (k - a) j e w r ∙ p e le ∙ sym (q e le) ∙ sym (at_digit g a (k - a) j e w r)

  -- ---- lists

  Counts-one : (at c d k : ℕ) → Counts h at c d → Counts g at c d → Among at 2 k → get_or h k 0 ≡ get_or g k 0
  Counts-one at c d k p q t = same_two at k (p.len ∙ sym q.len) (p.dead ∙ sym q.dead) t

  Scalar-one : (at base cap d k : ℕ) (ids : List ℕ) → Scalar h at base cap ids d → Scalar g at base cap ids d → UsedScalar at base (length ids) k → get_or h k 0 ≡ get_or g k 0
  Scalar-one at base cap d k ids p q u =
      ⊎_elim (Counts-one at (length ids) d k p.counts q.counts)
      (λ (t : Among base (length ids) k). same_at k (base + (k - base)) (omega arith) (p.numbers (k - base) (omega arith) ∙ sym (q.numbers (k - base) (omega arith)))) u

  -- mask o of block b, of 2 n masks
  mask_one : (base cap n b o : ℕ) (m : List Entry) → Reps h base cap n m → Reps g base cap n m → b < words (length m) → o < 2 * n → get_or h (mask_place base cap n b + o) 0 ≡ get_or g (mask_place base cap n b + o) 0
  mask_one base cap n b o m p q lb lo = elim (ℕ_discrete (o % 2) 0) [
    | yes e ↦
        let there : o / 2 < n = omega arith in
        same_at (mask_place base cap n b + o) (mask_place base cap n b + (2 * (o / 2) + 0)) (omega arith)
        (same_digits (mask_place base cap n b + (2 * (o / 2) + 0)) (λ j lj. p.xs b (o / 2) j lb there lj ∙ sym (q.xs b (o / 2) j lb there lj)))
    | no e ↦
        let there : o / 2 < n = omega arith in
        same_at (mask_place base cap n b + o) (mask_place base cap n b + (2 * (o / 2) + 1)) (omega arith)
        (same_digits (mask_place base cap n b + (2 * (o / 2) + 1)) (λ j lj. p.zs b (o / 2) j lb there lj ∙ sym (q.zs b (o / 2) j lb there lj)))
  ]

  masks_one : (base cap n k : ℕ) (m : List Entry) → 0 < n → Reps h base cap n m → Reps g base cap n m → Among (base + cap) (words (length m) * (2 * n)) k → get_or h k 0 ≡ get_or g k 0
  masks_one base cap n k m some p q t =
      let w : 0 < 2 * n = omega arith in
      let d : ℕ = k - (base + cap) in
      let whole : d / (2 * n) * (2 * n) + d % (2 * n) ≡ d = div-add-mod' d (2 * n) in
      let there : d / (2 * n) < words (length m) = (div-lt_iff_lt-mul w).1 (omega arith) in
      same_at k (mask_place base cap n (d / (2 * n)) + d % (2 * n)) (omega arith) (mask_one base cap n (d / (2 * n)) (d % (2 * n)) m p q there (mod-lt d w))

  blocks_one : (base cap n k : ℕ) (m : List Entry) → 0 < n → Reps h base cap n m → Reps g base cap n m → UsedBlocks base cap n (length m) k → get_or h k 0 ≡ get_or g k 0
  blocks_one base cap n k m some p q u =
      ⊎_elim (λ (t : Among base (length m) k). same_at k (base + (k - base)) (omega arith) (p.ids (k - base) (omega arith) ∙ sym (q.ids (k - base) (omega arith))))
      (⊎_elim (masks_one base cap n k m some p q) live) u
    where
      live : Among (live_place base cap n 0) (words (length m)) k → get_or h k 0 ≡ get_or g k 0
      live t =
          let b : ℕ = k - live_place base cap n 0 in
          let there : b < words (length m) = omega arith in
          same_at k (live_place base cap n b) (omega arith) (same_digits (live_place base cap n b) (λ j lj. p.lives b j there lj ∙ sym (q.lives b j there lj)))

  Sliced-one : (at base cap n d k : ℕ) (m : List Entry) → 0 < n → Sliced h at base cap n m d → Sliced g at base cap n m d → UsedSliced at base cap n (length m) k → get_or h k 0 ≡ get_or g k 0
  Sliced-one at base cap n d k m some p q u =
      ⊎_elim (Counts-one at (length m) d k p.counts q.counts) (blocks_one base cap n k m some p.reps q.reps) u

  lists_one : (f : Form) (n cap l : ℕ) (m : State) (k : ℕ) → ListsIn f m n cap l h → ListsIn f m n cap l g → OfLists f n cap l m k → get_or h k 0 ≡ get_or g k 0
  unfolding list_count
  lists_one scalar n cap l m k p q (b, lb, u) = Scalar-one (count_place cap l + 2 * b) (list_place scalar n cap l + b * cap) cap _ k (list_at m b) (p b lb) (q b lb) u
  lists_one sliced n cap l m k p q (b, lb, u) =
      Sliced-one (count_place cap l + 2 * b) (list_place sliced n cap l + b * sliced_room cap n) cap n _ k (map (entry_of m.events) (list_at m b)) (omega arith) (p b lb) (q b lb)
      (subst (λ (len : ℕ). UsedSliced (count_place cap l + 2 * b) (list_place sliced n cap l + b * sliced_room cap n) cap n len k) (sym (length-map (list_at m b) (entry_of m.events))) u)

  -- ---- all of it

  -- a word before the links: a count or a head
  front_one : (f : Form) (n cap l : ℕ) (m : State) → Holds f n cap l m h → Holds f n cap l m g → (k : ℕ) → k < 2 + cap → get_or h k 0 ≡ get_or g k 0
  front_one f n cap l m p q k lt = elim (dec_lt k 2) [
    | yes d ↦ same_two 0 k (p.count ∙ sym q.count) (p.cleared ∙ sym q.cleared) (omega arith, omega arith)
    | no d ↦
        let there : k - 2 < cap = omega arith in
        same_at k (2 + (k - 2)) (omega arith) ((p.chains (k - 2) there).head ∙ sym (q.chains (k - 2) there).head)
  ]

  -- a word that the state relies on is the same in both
  pub used_one : (f : Form) (n cap l : ℕ) (m : State) → Holds f n cap l m h → Holds f n cap l m g → (k : ℕ) → Uses f n cap l m k → get_or h k 0 ≡ get_or g k 0
  used_one f n cap l m p q k u =
      ⊎_elim (front_one f n cap l m p q k)
      (⊎_elim (λ t. event_one f n cap l m p q t.0 k t.1 t.2)
      (⊎_elim (Alive-one (alive_place cap l) k m.events p.alive q.alive) (lists_one f n cap l m k p.lists q.lists))) u

  -- words that become the same state from the same words are the same
  pub Becomes-one : (f : Form) (n cap l : ℕ) (m : State) (s : List ℕ) → Becomes f n cap l m s h → Becomes f n cap l m s g → h ≡ g
  Becomes-one f n cap l m s p q = ext_get_or 0 h g (p.only.same_length ∙ sym q.only.same_length) each
    where
      each : (k : ℕ) → k < length h → get_or h k 0 ≡ get_or g k 0
      each k lt = elim (ℕ_discrete (get_or h k 0) (get_or g k 0)) [
        | yes e ↦ e
        | no e ↦
            let unused : Uses f n cap l m k → ⊥ = λ u. e (used_one f n cap l m p.holds q.holds k u) in
            p.only.kept k unused ∙ sym (q.only.kept k unused)
      ]
