-- What a look that does not run out says: its steps through labels and lists find what `Demands` says without them, in both forms and with any
-- labels. Assumes nothing.
use Prim.Native.Nat.{ℕ, zero, suc, ◌+◌, ◌-◌, ◌*◌, ◌/◌, ◌^◌, ◌≤◌, ◌<◌}
use mathlib.Core.Path.{◌≡◌, refl, sym, ap, ◌∙◌, subst}
use mathlib.Core.Logic.{◌⊎◌, inl, inr, ⊎_elim}
use mathlib.Core.Bool.{Bool, true, false, cond, not, ◌&&◌}
use mathlib.Core.List.{List, [], ◌∷◌, map}
use native.Mathlib.Omega.{arith}
use native.Mathlib.Decide.{ℕ_discrete, dec_le}
use native.Mathlib.Nat.{not-suc-le-zero, zero-add}
use lib.ListN.{length, take, drop, take-append-drop, length-drop}
use lib.Dec.{eqb, ltb, leb}
use borrow.Author.Tests.{ltb-true, lt-ltb, eqb-true, eq-eqb, le-leb, lt-leb}
use Rattle.model.specs.Pauli.{Pauli, sign, apart}
use Rattle.model.specs.Frame.{from}
use Rattle.model.specs.Sketch.{Label}
use Rattle.model.specs.Events.{Body, rotation, blocker, Event, Form, scalar, sliced, State, plane, keep, some, touches, event_at, live_at, is_rotation}
use Rattle.model.specs.Search.{Work, Walk, done, stopped, dry, walk, down, recent, has_label, candidate, same_axis, phase1, against, list_at, join, shared_below, entry, scalar_list, blocks, start, block, sliced_list, list_work, phase2, looked2, looked1, look_for}
use Rattle.model.specs.Demands.{Mem, Rising, Match, Newest, InTheWay, Says}
use Rattle.model.proofs.Members.{clash, and_both, both_and, Mem-left, Mem-right, Mem-append, Mem-keep, keep-Mem, keep_none, Mem-some, some-Mem, same_bool, Mem-from, from-Mem}
use Rattle.model.proofs.Lists.{ListOk, ListsOk}
use Rattle.model.proofs.Share.{shared_bit}
use Rattle.model.proofs.Parity.{apart_comm}

-- ---- a walk, and the first piece of work that stops it

-- what a walk that does not run dry tells of its work
abbrev pub Tells : List Work → Walk → Type 0
Tells ws (done left) = some (λ w. w.stops) ws ≡ false
Tells ws (stopped id left) = some (λ w. w.stops) ws ≡ true
Tells ws (dry left) = Unit {0}

pub walk-Tells : (ws : List Work) (left : ℕ) → Tells ws (walk ws left)
unfolding walk some
walk-Tells [] left = refl
walk-Tells (w ∷ ws) left = go (ltb left w.cost) w.stops (walk ws (left - w.cost)) (walk-Tells ws (left - w.cost))
  where
    more : (v : Walk) → Tells ws v → (t : Bool) → w.stops ≡ t → Tells (w ∷ ws) (cond t (stopped w.id (left - w.cost)) v)
    more v h true e = rw e
    more (done k) h false e = rw e h
    more (stopped i k) h false e = rw e h
    more (dry k) h false e = tt

    go : (b t : Bool) (v : Walk) → Tells ws v → Tells (w ∷ ws) (cond b (dry left) (cond w.stops (stopped w.id (left - w.cost)) v))
    go true t v h = tt
    go false t v h = more v h w.stops refl

-- ---- phase 1

-- a live rotation with just these sets
unfoldable pub matches : List Event → (x z id : ℕ) → Bool
matches es x z id = live_at es id && (is_rotation (event_at es id).body && same_axis x z (event_at es id))

module _ (s : State) (a : Label) (x z : ℕ)
    (law : (id : ℕ) → matches s.events x z id ≡ true → has_label a (event_at s.events id).body ≡ true) where
  work1 : ℕ → Work
  work1 id = record { cost = 1; stops = same_axis x z (event_at s.events id); id = id }

  -- what a walk over the events from `base` on, k in all, newest first, tells
  Tells1 : (base k : ℕ) → Walk → Type 0
  Tells1 base k (done left) = (j : ℕ) → base ≤ j → j < base + k → matches s.events x z j ≡ false
  Tells1 base k (stopped id left) =
      (base ≤ id) × (id < base + k) × (matches s.events x z id ≡ true) × ((j : ℕ) → id < j → j < base + k → matches s.events x z j ≡ false)
  Tells1 base k (dry left) = Unit {0}

  has_rotation : (b : Body) → has_label a b ≡ true → is_rotation b ≡ true
  unfolding has_label is_rotation
  has_rotation (rotation tag sgn label) h = refl
  has_rotation blocker h = h

  -- a candidate matches when its axis is the same
  matches-candidate : (id : ℕ) → candidate s.events a id ≡ true → same_axis x z (event_at s.events id) ≡ matches s.events x z id
  unfolding candidate matches
  matches-candidate id h =
      let w : (live_at s.events id ≡ true) × (has_label a (event_at s.events id).body ≡ true) = and_both _ _ h in
      rw (w.0, has_rotation (event_at s.events id).body w.1)

  candidate-matches : (id : ℕ) → matches s.events x z id ≡ true → candidate s.events a id ≡ true
  unfolding candidate matches
  candidate-matches id h =
      both_and (live_at s.events id) (has_label a (event_at s.events id).body)
      (and_both (live_at s.events id) (is_rotation (event_at s.events id).body && same_axis x z (event_at s.events id)) h).0 (law id h)

  -- one event more, which does not match
  one_more : (base k j : ℕ) → matches s.events x z (base + k) ≡ false → (j < base + k → matches s.events x z j ≡ false) → j < base + suc k
      → matches s.events x z j ≡ false
  one_more base k j e f h = go (ℕ_discrete j (base + k))
    where
      go : Dec (j ≡ base + k) → matches s.events x z j ≡ false
      go (yes q) = ap (matches s.events x z) q ∙ e
      go (no q) = f (omega arith)

  skip : (base k : ℕ) → matches s.events x z (base + k) ≡ false → (v : Walk) → Tells1 base k v → Tells1 base (suc k) v
  unfolding Tells1
  skip base k e (done left) h = λ j u v. one_more base k j e (h j u) v
  skip base k e (stopped i left) h = (h.0, omega (arith, h.1), h.2, λ j u v. one_more base k j e (h.3 j u) v)
  skip base k e (dry left) h = tt

  hit : (base k left : ℕ) → matches s.events x z (base + k) ≡ true → Tells1 base (suc k) (stopped (base + k) left)
  unfolding Tells1
  hit base k left e = (omega arith, omega arith, e, λ j u v. absurd (none j u v))
    where
      none : (j : ℕ) → base + k < j → j < base + suc k → ⊥
      none j u v = omega arith

  walk1 : (base k left : ℕ) → Tells1 base k (walk (map work1 (keep (candidate s.events a) (down base k))) left)
  unfolding Tells1 keep walk work1 down
  walk1 base zero left = λ j u v. absurd (none j u v)
    where
      none : (j : ℕ) → base ≤ j → j < base + 0 → ⊥
      none j u v = omega arith
  walk1 base (suc k) left = go (candidate s.events a id) refl (matches s.events x z id) refl (walk1 base k)
    where
      id : ℕ
      id = base + k

      rest : List Work
      rest = map work1 (keep (candidate s.events a) (down base k))

      pay : (b : Bool) → matches s.events x z id ≡ b → Tells1 base k (walk rest (left - 1))
          → (t : Bool) → Tells1 base (suc k) (cond t (dry left) (cond b (stopped id (left - 1)) (walk rest (left - 1))))
      pay b e h true = tt
      pay true e h false = hit base k (left - 1) e
      pay false e h false = skip base k e (walk rest (left - 1)) h

      go : (c : Bool) → candidate s.events a id ≡ c → (m : Bool) → matches s.events x z id ≡ m
          → ((i : ℕ) → Tells1 base k (walk rest i))
          → Tells1 base (suc k) (walk (map work1 (cond c (id ∷ keep (candidate s.events a) (down base k)) (keep (candidate s.events a) (down base k)))) left)
      go true e m f h =
          subst (λ (b : Bool). Tells1 base (suc k) (cond (ltb left 1) (dry left) (cond b (stopped id (left - 1)) (walk rest (left - 1)))))
          (sym (matches-candidate id e ∙ f))
          (pay m f (h (left - 1)) (ltb left 1))
      go false e true f h = clash (candidate s.events a id) (candidate-matches id f) e
      go false e false f h = skip base k f (walk rest left) (h left)

-- ---- the least number that passes a test

none_some : (p : ℕ → Bool) (k n : ℕ) → ((c : ℕ) → k ≤ c → c < k + n → p c ≡ false) → some p (from k n) ≡ false
none_some p k n h = go (some p (from k n)) refl
  where
    go : (t : Bool) → some p (from k n) ≡ t → t ≡ false
    go true e =
        let w : (i : ℕ) × Mem i (from k n) × (p i ≡ true) = some-Mem p (from k n) e in
        let r : (k ≤ w.0) × (w.0 < k + n) = from-Mem k n w.0 w.1 in
        clash (p w.0) w.2 (h w.0 r.0 r.1)
    go false e = refl

Least : (ℕ → Bool) → ℕ → Type 0
Least p m = (c : ℕ) × (c < m) × (p c ≡ true) × (some p (from 0 c) ≡ false)

least : (p : ℕ → Bool) (n k b : ℕ) → ((c : ℕ) → c < k → p c ≡ false) → k ≤ b → b < k + n → p b ≡ true → Least p (k + n)
unfolding Least
least p zero k b h i j e = absurd (empty k b i j)
  where
    empty : (k b : ℕ) → k ≤ b → b < k + 0 → ⊥
    empty k b i j = omega arith
least p (suc n) k b h i j e = go (p k) refl (least p n (suc k) b)
  where
    go : (t : Bool) → p k ≡ t
        → (((c : ℕ) → c < suc k → p c ≡ false) → suc k ≤ b → b < suc k + n → p b ≡ true → Least p (suc k + n)) → Least p (k + suc n)
    go true f r = (k, omega arith, f, none_some p 0 k (λ c u v. h c (omega (arith, zero-add k))))
    go false f r =
        let w : Least p (suc k + n) = r below (over (ℕ_discrete k b)) (omega arith) e in
        (w.0, omega (arith, w.1), w.2, w.3)
      where
        below : (c : ℕ) → c < suc k → p c ≡ false
        below c u = pick (ℕ_discrete c k)
          where
            pick : Dec (c ≡ k) → p c ≡ false
            pick (yes q) = ap p q ∙ f
            pick (no q) = h c (omega arith)

        over : Dec (k ≡ b) → suc k ≤ b
        over (yes q) = clash (p b) e (ap p (sym q) ∙ f)
        over (no q) = omega arith

Least-of : (p : ℕ → Bool) (m b : ℕ) → b < m → p b ≡ true → Least p m
Least-of p m b h e = subst (Least p) (zero-add m) (least p m 0 b (λ c u. absurd (not-suc-le-zero u)) (omega arith) (omega (arith, zero-add m)) e)

-- ---- work laid end to end

join-Mem : {A : Type 0} (a : A) (ss : List (List A)) → Mem a (join ss) → (s : List A) × Mem s ss × Mem a s
unfolding join
join-Mem a [] m = absurd m
join-Mem a (s ∷ ss) m = go (Mem-append a s (join ss) m) (join-Mem a ss)
  where
    go : Mem a s ⊎ Mem a (join ss) → (Mem a (join ss) → (t : List _) × Mem t ss × Mem a t) → (t : List _) × Mem t (s ∷ ss) × Mem a t
    go (inl k) f = (s, inl refl, k)
    go (inr k) f = let w : (t : List _) × Mem t ss × Mem a t = f k in (w.0, inr w.1, w.2)

Mem-join : {A : Type 0} (a : A) (s : List A) (ss : List (List A)) → Mem s ss → Mem a s → Mem a (join ss)
unfolding join
Mem-join a s [] m k = absurd m
Mem-join a s (t ∷ ss) (inl e) k = Mem-left a t (join ss) (subst (Mem a) e k)
Mem-join a s (t ∷ ss) (inr m) k = Mem-right a t (join ss) (Mem-join a s ss m k)

map-Mem : {A B : Type 0} (f : A → B) (b : B) (s : List A) → Mem b (map f s) → (a : A) × Mem a s × (b ≡ f a)
map-Mem f b [] m = absurd m
map-Mem f b (a ∷ s) (inl e) = (a, inl refl, e)
map-Mem f b (a ∷ s) (inr m) = let w : (c : _) × Mem c s × (b ≡ f c) = map-Mem f b s m in (w.0, inr w.1, w.2)

Mem-map : {A B : Type 0} (f : A → B) (a : A) (s : List A) → Mem a s → Mem (f a) (map f s)
Mem-map f a [] m = absurd m
Mem-map f a (c ∷ s) (inl e) = inl (ap f e)
Mem-map f a (c ∷ s) (inr m) = inr (Mem-map f a s m)

-- ---- blocks

take-Mem : (n j : ℕ) (s : List ℕ) → Mem j (take n s) → Mem j s
take-Mem n j s m = subst (Mem j) (take-append-drop n s) (Mem-left j (take n s) (drop n s) m)

drop-Mem : (n j : ℕ) (s : List ℕ) → Mem j (drop n s) → Mem j s
drop-Mem n j s m = subst (Mem j) (take-append-drop n s) (Mem-right j (take n s) (drop n s) m)

blocks-Mem : (m j : ℕ) (s t : List ℕ) → Mem t (blocks m s) → Mem j t → Mem j s
unfolding blocks
blocks-Mem zero j s t u v = absurd u
blocks-Mem (suc m) j [] t u v = absurd u
blocks-Mem (suc m) j (i ∷ s) t (inl e) v = take-Mem 64 j (i ∷ s) (subst (Mem j) e v)
blocks-Mem (suc m) j (i ∷ s) t (inr u) v = drop-Mem 64 j (i ∷ s) (blocks-Mem m j (drop 64 (i ∷ s)) t u v)

Mem-blocks : (m j : ℕ) (s : List ℕ) → length s ≤ m → Mem j s → (t : List ℕ) × Mem t (blocks m s) × Mem j t
unfolding blocks
Mem-blocks zero j [] h u = absurd u
Mem-blocks zero j (i ∷ s) h u = absurd (not-suc-le-zero h)
Mem-blocks (suc m) j [] h u = absurd u
Mem-blocks (suc m) j (i ∷ s) h u =
    go (Mem-append j (take 64 (i ∷ s)) (drop 64 (i ∷ s)) (subst (Mem j) (sym (take-append-drop 64 (i ∷ s))) u))
    (Mem-blocks m j (drop 64 (i ∷ s)) (omega (arith, length-drop 64 (i ∷ s))))
  where
    go : Mem j (take 64 (i ∷ s)) ⊎ Mem j (drop 64 (i ∷ s)) → (Mem j (drop 64 (i ∷ s)) → (t : List ℕ) × Mem t (blocks m (drop 64 (i ∷ s))) × Mem j t)
        → (t : List ℕ) × Mem t (take 64 (i ∷ s) ∷ blocks m (drop 64 (i ∷ s))) × Mem j t
    go (inl v) f = (take 64 (i ∷ s), inl refl, v)
    go (inr v) f = let w : (t : List ℕ) × Mem t (blocks m (drop 64 (i ∷ s))) × Mem j t = f v in (w.0, inr w.1, w.2)

-- no later entry of a rising list stands before the place where the first later one would
start_none : (after a : ℕ) (s : List ℕ) → Rising (a ∷ s) → after < a → start after (a ∷ s) ≡ 0
unfolding start
start_none after a s r h = ap length (keep_none (λ id. leb id after) (a ∷ s) (λ i m. lt-leb i after (⊎_elim (λ (q : i ≡ a). omega arith) (λ k. omega (arith, r.0 i k)) m)))

start-suc : (after a : ℕ) (s : List ℕ) → a ≤ after → start after (a ∷ s) ≡ suc (start after s)
unfolding start keep
start-suc after a s h = rw (le-leb a after h)

later_drop : (after j m : ℕ) (s : List ℕ) → Rising s → m ≤ start after s → after < j → Mem j s → Mem j (drop m s)
later_drop after j zero s r h k u = u
later_drop after j (suc m) [] r h k u = absurd u
later_drop after j (suc m) (a ∷ s) r h k u = go (dec_le a after) u (later_drop after j m s r.1)
  where
    go : Dec (a ≤ after) → Mem j (a ∷ s) → (m ≤ start after s → after < j → Mem j s → Mem j (drop m s)) → Mem j (drop m s)
    go (yes q) (inl e) f = absurd (wrong j a e q k)
      where
        wrong : (j a : ℕ) → j ≡ a → a ≤ after → after < j → ⊥
        wrong j a e q k = omega arith
    go (yes q) (inr v) f = f (omega (arith, start-suc after a s q)) k v
    go (no q) v f = absurd (wrong (start after (a ∷ s)) (start_none after a s r (omega arith)) h)
      where
        wrong : (w : ℕ) → w ≡ 0 → suc m ≤ w → ⊥
        wrong w e g = omega arith

-- ---- phase 2

module _ (s : State) (k : ListsOk s) (after x z : ℕ) where
  -- event j is later, live, and against the axis
  later : ℕ → Bool
  later j = ltb after j && against s.events x z j

  Stops : List Work → Type 0
  Stops ws = (w : Work) × Mem w ws × (w.stops ≡ true)

  -- work of list b that stops the search comes from a later event of that list
  from_list : (f : Form) (b : ℕ) (w : Work) → Mem w (list_work s f after x z b) → w.stops ≡ true → (j : ℕ) × Mem j (list_at s b) × (later j ≡ true)
  unfolding list_work scalar_list sliced_list entry block later
  from_list scalar b w m e =
      let u : (j : ℕ) × Mem j (keep (ltb after) (list_at s b)) × (w ≡ entry s x z b j) = map-Mem (entry s x z b) w (keep (ltb after) (list_at s b)) m in
      let v : Mem u.0 (list_at s b) × (ltb after u.0 ≡ true) = keep-Mem (ltb after) u.0 (list_at s b) u.1 in
      let t : (entry s x z b u.0).stops ≡ true = sym (ap (λ (y : Work). y.stops) u.2) ∙ e in (
        u.0,
        v.0,
        both_and (ltb after u.0) (against s.events x z u.0) v.1
            (and_both (not (shared_below (plane s) x z (event_at s.events u.0) b)) (against s.events x z u.0) t).1,
      )
  from_list sliced b w m e =
      let d : List ℕ = drop (start after (list_at s b) / 64 * 64) (list_at s b) in
      let u : (t : List ℕ) × Mem t (blocks (length (list_at s b)) d) × (w ≡ block s after x z t) = map-Mem (block s after x z) w (blocks (length (list_at s b)) d) m in
      let t : (block s after x z u.0).stops ≡ true = sym (ap (λ (y : Work). y.stops) u.2) ∙ e in
      let v : (j : ℕ) × Mem j u.0 × (later j ≡ true) = some-Mem later u.0 t in
      (v.0, drop-Mem (start after (list_at s b) / 64 * 64) v.0 (list_at s b) (blocks-Mem (length (list_at s b)) v.0 d u.0 u.1 v.1), v.2)

  -- and a later event of list b that is in no earlier shared list makes such work
  to_list : (f : Form) (b j : ℕ) → Rising (list_at s b) → Mem j (list_at s b) → later j ≡ true → shared_below (plane s) x z (event_at s.events j) b ≡ false
      → Stops (list_work s f after x z b)
  unfolding Stops list_work scalar_list sliced_list entry block later
  to_list scalar b j r m e n =
      let v : (ltb after j ≡ true) × (against s.events x z j ≡ true) = and_both (ltb after j) (against s.events x z j) e in (
        entry s x z b j,
        Mem-map (entry s x z b) j (keep (ltb after) (list_at s b)) (Mem-keep (ltb after) j (list_at s b) m v.0),
        both_and (not (shared_below (plane s) x z (event_at s.events j) b)) (against s.events x z j) (ap not n) v.1,
      )
  to_list sliced b j r m e n =
      let v : (ltb after j ≡ true) × (against s.events x z j ≡ true) = and_both (ltb after j) (against s.events x z j) e in
      let c : ℕ = start after (list_at s b) / 64 * 64 in
      let u : Mem j (drop c (list_at s b)) = later_drop after j c (list_at s b) r (omega arith) (ltb-true after j v.0) m in
      let t : (t : List ℕ) × Mem t (blocks (length (list_at s b)) (drop c (list_at s b))) × Mem j t
      = Mem-blocks (length (list_at s b)) j (drop c (list_at s b)) (omega (arith, length-drop c (list_at s b))) u in
      (block s after x z t.0, Mem-map (block s after x z) t.0 (blocks (length (list_at s b)) (drop c (list_at s b))) t.1, Mem-some later j t.0 t.2 e)

  bits : List ℕ
  bits = keep (touches (plane s) x z) (from 0 (length s.lists))

  stops-some : some (λ w. w.stops) (phase2 s after x z) ≡ true → some later (from 0 (length s.events)) ≡ true
  unfolding phase2 bits
  stops-some e =
      let u : (w : Work) × Mem w (phase2 s after x z) × (w.stops ≡ true) = some-Mem (λ w. w.stops) (phase2 s after x z) e in
      let v : (t : List Work) × Mem t (map (list_work s s.given.form after x z) bits) × Mem u.0 t
      = join-Mem u.0 (map (list_work s s.given.form after x z) bits) u.1 in
      let p : (b : ℕ) × Mem b bits × (v.0 ≡ list_work s s.given.form after x z b) = map-Mem (list_work s s.given.form after x z) v.0 bits v.1 in
      let q : Mem p.0 (from 0 (length s.lists)) × (touches (plane s) x z p.0 ≡ true)
      = keep-Mem (touches (plane s) x z) p.0 (from 0 (length s.lists)) p.1 in
      let r : (0 ≤ p.0) × (p.0 < 0 + length s.lists) = from-Mem 0 (length s.lists) p.0 q.0 in
      let j : (j : ℕ) × Mem j (list_at s p.0) × (later j ≡ true) = from_list s.given.form p.0 u.0 (subst (Mem u.0) p.2 v.2) u.2 in
      let o : ListOk (plane s) s.given.form s.events p.0 (list_at s p.0) = k.ok p.0 (omega arith) in
      Mem-some later j.0 (from 0 (length s.events)) (Mem-from 0 (length s.events) j.0 (omega arith) (omega (arith, o.bound j.0 j.1))) j.2

  module _ (hx : x < 2 ^ ((plane s) * length s.lists)) (hz : z < 2 ^ ((plane s) * length s.lists)) where
    some-stops : some later (from 0 (length s.events)) ≡ true → some (λ w. w.stops) (phase2 s after x z) ≡ true
    unfolding phase2 bits later against Stops Least shared_below
    some-stops e =
        let u : (j : ℕ) × Mem j (from 0 (length s.events)) × (later j ≡ true) = some-Mem later (from 0 (length s.events)) e in
        let j : ℕ = u.0 in
        let ex : ℕ = (event_at s.events j).x in
        let ez : ℕ = (event_at s.events j).z in
        let r : (0 ≤ j) × (j < 0 + length s.events) = from-Mem 0 (length s.events) j u.1 in
        let v : (ltb after j ≡ true) × (against s.events x z j ≡ true) = and_both (ltb after j) (against s.events x z j) u.2 in
        let a : (live_at s.events j ≡ true) × (eqb (apart ex ez x z) 1 ≡ true) = and_both (live_at s.events j) (eqb (apart ex ez x z) 1) v.1 in
        let b : (b : ℕ) × (b < length s.lists) × (touches (plane s) x z b ≡ true) × (touches (plane s) ex ez b ≡ true)
        = shared_bit (plane s) (length s.lists) x z ex ez hx hz (apart_comm x z ex ez ∙ eqb-true (apart ex ez x z) 1 a.1) in
        let c : Least (λ c. touches (plane s) x z c && touches (plane s) ex ez c) (length s.lists)
        = Least-of (λ c. touches (plane s) x z c && touches (plane s) ex ez c) (length s.lists) b.0 b.1
        (both_and (touches (plane s) x z b.0) (touches (plane s) ex ez b.0) b.2 b.3) in
        let t : (touches (plane s) x z c.0 ≡ true) × (touches (plane s) ex ez c.0 ≡ true)
        = and_both (touches (plane s) x z c.0) (touches (plane s) ex ez c.0) c.2 in
        let o : ListOk (plane s) s.given.form s.events c.0 (list_at s c.0) = k.ok c.0 c.1 in
        let m : Mem j (list_at s c.0) = o.whole j (omega arith) a.0 t.1 in
        let w : Stops (list_work s s.given.form after x z c.0) = to_list s.given.form c.0 j o.rising m u.2 c.3 in
        Mem-some (λ w. w.stops) w.0 (phase2 s after x z)
        (Mem-join w.0 (list_work s s.given.form after x z c.0) (map (list_work s s.given.form after x z) bits)
        (Mem-map (list_work s s.given.form after x z) c.0 bits
        (Mem-keep (touches (plane s) x z) c.0 (from 0 (length s.lists)) (Mem-from 0 (length s.lists) c.0 (omega arith) (omega (arith, c.1))) t.0))
        w.1)
        w.2

    phase2_means : some (λ w. w.stops) (phase2 s after x z) ≡ some (λ j. ltb after j && against s.events x z j) (from 0 (length s.events))
    unfolding later
    phase2_means = same_bool _ _ stops-some some-stops

-- ---- a look

-- the tests as `Demands` says them
Match-true : (s : State) (p : Pauli) (id : ℕ) → Match s p id → matches s.events p.x p.z id ≡ true
unfolding matches same_axis
Match-true s p id m =
    both_and (live_at s.events id) _ m.live
    (both_and (is_rotation (event_at s.events id).body) _ m.rotation
    (both_and (eqb p.x (event_at s.events id).x) (eqb p.z (event_at s.events id).z) (eq-eqb _ _ (sym m.x_same)) (eq-eqb _ _ (sym m.z_same))))

true-Match : (s : State) (p : Pauli) (id : ℕ) → id < length s.events → s.cleared ≤ id → matches s.events p.x p.z id ≡ true → Match s p id
unfolding matches same_axis
true-Match s p id h k m =
    let e : Event = event_at s.events id in
    let u : (live_at s.events id ≡ true) × ((is_rotation e.body && (eqb p.x e.x && eqb p.z e.z)) ≡ true)
    = and_both (live_at s.events id) (is_rotation e.body && (eqb p.x e.x && eqb p.z e.z)) m in
    let v : (is_rotation e.body ≡ true) × ((eqb p.x e.x && eqb p.z e.z) ≡ true)
    = and_both (is_rotation e.body) (eqb p.x e.x && eqb p.z e.z) u.1 in
    let w : (eqb p.x e.x ≡ true) × (eqb p.z e.z ≡ true) = and_both (eqb p.x e.x) (eqb p.z e.z) v.1 in
    record {
      there = h;
      since = k;
      live = u.0;
      rotation = v.0;
      x_same = sym (eqb-true p.x e.x w.0);
      z_same = sym (eqb-true p.z e.z w.1);
    }

abbrev Way : State → Pauli → ℕ → Bool
Way s p id = some (λ j. ltb id j && against s.events p.x p.z j) (from 0 (length s.events))

way_true : (s : State) (p : Pauli) (id j : ℕ) → InTheWay s p id j → Way s p id ≡ true
unfolding against
way_true s p id j w =
    Mem-some (λ j. ltb id j && against s.events p.x p.z j) j (from 0 (length s.events))
    (Mem-from 0 (length s.events) j (omega arith) (omega (arith, w.there, zero-add (length s.events))))
    (both_and (ltb id j) (against s.events p.x p.z j) (lt-ltb id j w.later)
    (both_and (live_at s.events j) _ w.live (eq-eqb _ _ w.anticommutes)))

true_way : (s : State) (p : Pauli) (id : ℕ) → Way s p id ≡ true → (j : ℕ) × InTheWay s p id j
unfolding against
true_way s p id e =
    let u : (j : ℕ) × Mem j (from 0 (length s.events)) × ((ltb id j && against s.events p.x p.z j) ≡ true)
    = some-Mem (λ j. ltb id j && against s.events p.x p.z j) (from 0 (length s.events)) e in
    let j : ℕ = u.0 in
    let a : ℕ = apart (event_at s.events j).x (event_at s.events j).z p.x p.z in
    let r : (0 ≤ j) × (j < 0 + length s.events) = from-Mem 0 (length s.events) j u.1 in
    let v : (ltb id j ≡ true) × (against s.events p.x p.z j ≡ true) = and_both (ltb id j) (against s.events p.x p.z j) u.2 in
    let w : (live_at s.events j ≡ true) × (eqb a 1 ≡ true) = and_both (live_at s.events j) (eqb a 1) v.1 in
    (j, record { later = ltb-true id j v.0; there = omega arith; live = w.0; anticommutes = eqb-true a 1 w.1 })

pub look-Says : (s : State) → ListsOk s → s.cleared ≤ length s.events → (a : Label) (p : Pauli)
    → p.x < 2 ^ (plane s * length s.lists) → p.z < 2 ^ (plane s * length s.lists)
    → ((id : ℕ) → matches s.events p.x p.z id ≡ true → has_label a (event_at s.events id).body ≡ true)
    → Says s p (look_for s (sign p) a p.x p.z)
unfolding look_for phase1 recent Tells1 work1 looked1 looked2
look-Says s k past a p hx hz law =
    first (walk (map (work1 s a p.x p.z law) (keep (candidate s.events a) (recent s))) s.given.allowance)
    (walk1 s a p.x p.z law s.cleared (length s.events - s.cleared) s.given.allowance)
  where
    -- the events since the last clear are all the later ones
    inside : (j : ℕ) → s.cleared ≤ j → j < length s.events → j < s.cleared + (length s.events - s.cleared)
    inside j u v = omega arith

    no_match : (j : ℕ) → matches s.events p.x p.z j ≡ false → Match s p j → ⊥
    no_match j e m = clash (matches s.events p.x p.z j) (Match-true s p j m) e

    second : (id : ℕ) (v : Walk) → Tells (phase2 s id p.x p.z) v → Newest s p id → Says s p (looked2 s (sign p) id v)
    second id (done left) t n = record {
      newest = n;
      free = (λ j w. clash (Way s p id) (way_true s p id j w) (sym (phase2_means s k id p.x p.z hx hz) ∙ t));
      relative = refl;
    }
    second id (stopped i left) t n =
        let w : (j : ℕ) × InTheWay s p id j = true_way s p id (sym (phase2_means s k id p.x p.z hx hz) ∙ t) in
        (id, w.0, n, w.1)
    second id (dry left) t n = tt

    first : (v : Walk) → Tells1 s a p.x p.z law s.cleared (length s.events - s.cleared) v → Says s p (looked1 s (sign p) p.x p.z v)
    first (done left) t = λ id m. no_match id (t id m.since (inside id m.since m.there)) m
    first (stopped id left) t =
        second id (walk (phase2 s id p.x p.z) left) (walk-Tells (phase2 s id p.x p.z) left)
        (record {
          match = true-Match s p id (omega (arith, t.1)) t.0 t.2;
          newest = (λ j u m. no_match j (t.3 j u (inside j m.since m.there)) m);
        })
    first (dry left) t = tt
