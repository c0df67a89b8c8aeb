-- With at most 12,000 live events and an allowance of 1,048,576 a look never runs out. Assumes nothing.
use Prim.Native.Nat.{ℕ, zero, suc, ◌+◌, ◌-◌, ◌*◌, ◌/◌, ◌≤◌, ◌<◌}
use mathlib.Core.Path.{◌≡◌, refl, sym, ap, ap₂, ◌∙◌, subst}
use mathlib.Core.Logic.{◌≢◌, inl, inr}
use mathlib.Core.Bool.{Bool, true, false, cond}
use mathlib.Core.List.{List, [], ◌∷◌, ◌++◌, map}
use native.Mathlib.Omega.{arith}
use native.Mathlib.Decide.{ℕ_discrete}
use native.Mathlib.Nat.{add-zero, zero-add, le_trans, le_of_eq, mul-le-mul_right}
use lib.ListN.{length, get_or, take, drop, take-append-drop, length-append}
use lib.Dec.{ltb}
use borrow.Author.Tests.{ltb-true}
use Rattle.model.specs.Pauli.{Pauli, sign}
use Rattle.model.specs.Frame.{Kind, from, axis, paulis}
use Rattle.model.proofs.Invariant.{length_from}
use Rattle.model.specs.Sketch.{Label, labels}
use Rattle.model.specs.Events.{Event, Form, scalar, sliced, State, plane, keep, touches, no_event, event_at, live_at, dead, factor}
use Rattle.model.specs.Search.{Work, Walk, done, stopped, dry, walk, down, recent, has_label, candidate, phase1, list_at, join, entry, scalar_list, blocks, start, block, sliced_list, list_work, phase2, looked2, looked1, look_for, look}
use Rattle.model.proofs.Labels.{map-from}
use Rattle.model.specs.Calls.{tally}
use Rattle.model.specs.Demands.{Mem, Rising, NotOut, living}
use Rattle.model.proofs.Members.{and_both, keep-Mem, keep_append, keep_both, length-keep, Rising-keep, from-Mem, keep_yes, keep_no}
use Rattle.model.proofs.Lists.{ListOk, ListsOk}
use Rattle.model.proofs.Good.{Good, limit}

-- ---- what work costs

total : List Work → ℕ
total [] = 0
total (w ∷ ws) = w.cost + total ws

-- a walk does not run dry, and leaves r
abbrev Leaves : ℕ → Walk → Type 0
Leaves r (done left) = r ≤ left
Leaves r (stopped id left) = r ≤ left
Leaves r (dry left) = ⊥

leaves : (ws : List Work) (r left : ℕ) → total ws + r ≤ left → Leaves r (walk ws left)
unfolding walk total
leaves [] r left h = omega arith
leaves (w ∷ ws) r left h = go (ltb left w.cost) refl w.stops (leaves ws r (left - w.cost) (omega arith))
  where
    go : (t : Bool) → ltb left w.cost ≡ t → (b : Bool) → Leaves r (walk ws (left - w.cost))
        → Leaves r (cond t (dry left) (cond b (stopped w.id (left - w.cost)) (walk ws (left - w.cost))))
    go true e b k = wrong w.cost (ltb-true left w.cost e) h
      where
        wrong : (c : ℕ) → left < c → c + total ws + r ≤ left → ⊥
        wrong c u v = omega arith
    go false e true k = omega arith
    go false e false k = k

total_ones : {A : Type 0} (f : A → Work) (s : List A) → ((a : A) → (f a).cost ≡ 1) → total (map f s) ≡ length s
unfolding total
total_ones f [] h = refl
total_ones f (a ∷ s) h = ap₂ (λ (x y : ℕ). x + y) (h a) (total_ones f s h) ∙ line (length s)
  where
    line : (n : ℕ) → 1 + n ≡ suc n
    line n = omega arith

total-append : (s t : List Work) → total (s ++ t) ≡ total s + total t
unfolding total
total-append [] t = sym (zero-add (total t))
total-append (w ∷ s) t = ap (λ (x : ℕ). w.cost + x) (total-append s t) ∙ line w.cost (total s) (total t)
  where
    line : (a b c : ℕ) → a + (b + c) ≡ a + b + c
    line a b c = omega arith

-- ---- counting

-- a rising list of numbers from k on, n in all, that pass a test
count_le : (p : ℕ → Bool) (n k : ℕ) (s : List ℕ) → Rising s → ((i : ℕ) → Mem i s → k ≤ i) → ((i : ℕ) → Mem i s → i < k + n) → ((i : ℕ) → Mem i s → p i ≡ true)
    → length s ≤ length (keep p (from k n))
unfolding from
count_le p n k [] r lo hi ok = omega arith
count_le p zero k (a ∷ s) r lo hi ok = absurd (wrong a (lo a (inl refl)) (hi a (inl refl)))
  where
    wrong : (a : ℕ) → k ≤ a → a < k + 0 → ⊥
    wrong a u v = omega arith
count_le p (suc n) k (a ∷ s) r lo hi ok =
    go (ℕ_discrete a k) (count_le p n (suc k) s r.1) (count_le p n (suc k) (a ∷ s) r)
  where
    more : (t : Bool) → p k ≡ t → length (keep p (from (suc k) n)) ≤ length (keep p (k ∷ from (suc k) n))
    more true e = rw (keep_yes p k (from (suc k) n) e) (omega arith)
    more false e = rw (keep_no p k (from (suc k) n) e) (omega arith)

    Counted : List ℕ → Type 0
    Counted t = ((i : ℕ) → Mem i t → suc k ≤ i) → ((i : ℕ) → Mem i t → i < suc k + n) → ((i : ℕ) → Mem i t → p i ≡ true) → length t ≤ length (keep p (from (suc k) n))

    above : (i : ℕ) → Mem i (a ∷ s) → a ≢ k → suc k ≤ i
    above i (inl e) q = omega (arith, lo a (inl refl))
    above i (inr m) q = omega (arith, lo a (inl refl), r.0 i m)

    go : Dec (a ≡ k) → Counted s → Counted (a ∷ s) → suc (length s) ≤ length (keep p (k ∷ from (suc k) n))
    go (yes e) f g =
        rw (keep_yes p k (from (suc k) n) (ap p (sym e) ∙ ok a (inl refl)))
        (omega (arith, f (λ i m. omega (arith, r.0 i m)) (λ i m. omega (arith, hi i (inr m))) (λ i m. ok i (inr m))))
    go (no e) f g = le_trans (g (λ i m. above i m e) (λ i m. omega (arith, hi i m)) ok) (more (p k) refl)

keep-map : {A B : Type 0} (p : B → Bool) (f : A → B) (s : List A) → length (keep (λ a. p (f a)) s) ≡ length (keep p (map f s))
unfolding keep
keep-map p f [] = refl
keep-map p f (a ∷ s) = go (p (f a)) (keep-map p f s)
  where
    go : (t : Bool) → length (keep (λ a. p (f a)) s) ≡ length (keep p (map f s))
        → length (cond t (a ∷ keep (λ a. p (f a)) s) (keep (λ a. p (f a)) s)) ≡ length (cond t (f a ∷ keep p (map f s)) (keep p (map f s)))
    go true h = ap suc h
    go false h = h

living_ids : (s : State) → length (keep (live_at s.events) (from 0 (length s.events))) ≡ living s
unfolding living live_at event_at
living_ids s =
    keep-map (λ e. e.live) (event_at s.events) (from 0 (length s.events))
    ∙ ap (λ (t : List Event). length (keep (λ e. e.live) t)) (map-from (event_at s.events) no_event s.events 0 (λ q. same q))
  where
    same : (q : ℕ) → event_at s.events (0 + q) ≡ get_or s.events q no_event
    same q = ap (λ (w : ℕ). get_or s.events w no_event) (zero-add q)

-- the live entries of a rising list
live_le : (s : State) (ids : List ℕ) → Rising ids → ((i : ℕ) → Mem i ids → i < length s.events) → length (keep (live_at s.events) ids) ≤ living s
live_le s ids r h =
    le_trans
    (count_le (live_at s.events) (length s.events) 0 (keep (live_at s.events) ids) (Rising-keep (live_at s.events) ids r) (λ i m. omega arith)
    (λ i m. omega (arith, h i (keep-Mem (live_at s.events) i ids m).0)) (λ i m. (keep-Mem (live_at s.events) i ids m).1))
    (le_of_eq (living_ids s))

-- ---- phase 1

Rising-from : (k n : ℕ) → Rising (from k n)
unfolding from
Rising-from k zero = tt
Rising-from k (suc n) = ((λ i m. (from-Mem (suc k) n i m).0), Rising-from (suc k) n)

from_snoc : (k n : ℕ) → from k (suc n) ≡ from k n ++ ((k + n) ∷ [])
unfolding from
from_snoc k zero = ap (λ (w : ℕ). w ∷ []) (sym (add-zero k))
from_snoc k (suc n) = ap {B = List ℕ} (λ t. k ∷ t) (from_snoc (suc k) n ∙ ap (λ (w : ℕ). from (suc k) n ++ (w ∷ [])) line)
  where
    line : suc k + n ≡ k + suc n
    line = omega arith

down-from : (p : ℕ → Bool) (k n : ℕ) → length (keep p (down k n)) ≡ length (keep p (from k n))
unfolding down from keep
down-from p k zero = refl
down-from p k (suc n) =
    go (p (k + n)) (down-from p k n)
    ∙ sym (ap (λ (t : List ℕ). length (keep p t)) (from_snoc k n) ∙ ap length (keep_append p (from k n) ((k + n) ∷ []))
    ∙ length-append (keep p (from k n)) (keep p ((k + n) ∷ [])))
  where
    go : (t : Bool) → length (keep p (down k n)) ≡ length (keep p (from k n))
        → length (cond t ((k + n) ∷ keep p (down k n)) (keep p (down k n))) ≡ length (keep p (from k n)) + length (cond t ((k + n) ∷ []) [])
    go true h = omega arith
    go false h = omega arith

recent-le : (s : State) (a : Label) → s.cleared ≤ length s.events → length (keep (candidate s.events a) (recent s)) ≤ living s
unfolding recent
recent-le s a h =
    le_trans (le_of_eq (down-from (candidate s.events a) s.cleared (length s.events - s.cleared)))
    (le_trans
    (count_le (live_at s.events) (length s.events) 0 (keep (candidate s.events a) ids)
    (Rising-keep (candidate s.events a) ids (Rising-from s.cleared (length s.events - s.cleared)))
    (λ i m. omega arith)
    (λ i m. omega (arith, (from-Mem s.cleared (length s.events - s.cleared) i (keep-Mem (candidate s.events a) i ids m).0).1))
    (λ i m. alive i (keep-Mem (candidate s.events a) i ids m).1))
    (le_of_eq (living_ids s)))
  where
    ids : List ℕ
    ids = from s.cleared (length s.events - s.cleared)

    alive : (i : ℕ) → candidate s.events a i ≡ true → live_at s.events i ≡ true
    alive i e = unfold candidate in (and_both (live_at s.events i) (has_label a (event_at s.events i).body) e).0

phase1_cost : (s : State) (a : Label) (x z : ℕ) → s.cleared ≤ length s.events → total (phase1 s a x z) ≤ living s
unfolding phase1
phase1_cost s a x z h = le_trans (le_of_eq (total_ones _ (keep (candidate s.events a) (recent s)) (λ i. refl))) (recent-le s a h)

-- ---- phase 2

-- what one list may cost, with m live events
unfoldable pub most : Form → ℕ → ℕ
most scalar m = 4 * m / 3
most sliced m = m

blocks_cost : (s : State) (after x z m : ℕ) (ids : List ℕ) → total (map (block s after x z) (blocks m ids)) ≤ length (keep (live_at s.events) ids)
unfolding total blocks block
blocks_cost s after x z zero ids = omega arith
blocks_cost s after x z (suc m) [] = omega arith
blocks_cost s after x z (suc m) (i ∷ ids) =
    le_trans (add (length (keep (live_at s.events) (take 64 (i ∷ ids)))) (blocks_cost s after x z m (drop 64 (i ∷ ids))))
    (le_of_eq (sym (ap (λ (t : List ℕ). length (keep (live_at s.events) t)) (sym (take-append-drop 64 (i ∷ ids)))
    ∙ ap length (keep_append (live_at s.events) (take 64 (i ∷ ids)) (drop 64 (i ∷ ids)))
    ∙ length-append (keep (live_at s.events) (take 64 (i ∷ ids))) (keep (live_at s.events) (drop 64 (i ∷ ids))))))
  where
    add : (c : ℕ) {u v : ℕ} → u ≤ v → c + u ≤ c + v
    add c h = omega arith

keep-drop : (p : ℕ → Bool) (n : ℕ) (s : List ℕ) → length (keep p (drop n s)) ≤ length (keep p s)
keep-drop p n s =
    le_trans (over (length (keep p (take n s))) (length (keep p (drop n s))))
    (le_of_eq (sym (ap (λ (t : List ℕ). length (keep p t)) (sym (take-append-drop n s)) ∙ ap length (keep_append p (take n s) (drop n s))
    ∙ length-append (keep p (take n s)) (keep p (drop n s)))))
  where
    over : (a b : ℕ) → b ≤ a + b
    over a b = omega arith

list_cost : (s : State) (f : Form) (after x z b : ℕ) → ListOk (plane s) f s.events b (list_at s b) → total (list_work s f after x z b) ≤ most f (living s)
unfolding list_work scalar_list sliced_list entry most dead
list_cost s scalar after x z b k =
    le_trans (le_of_eq (total_ones (entry s x z b) (keep (ltb after) (list_at s b)) (λ i. refl)))
    (law (length (keep (ltb after) (list_at s b))) (length (list_at s b)) _ _ (living s) (length-keep (ltb after) (list_at s b)) k.share
    (keep_both (live_at s.events) (list_at s b)) (live_le s (list_at s b) k.rising k.bound))
  where
    law : (c n d v m : ℕ) → c ≤ n → factor scalar * d ≤ n → v + d ≡ n → v ≤ m → c ≤ 4 * m / 3
    law c n d v m h i j k = unfold factor in omega arith
list_cost s sliced after x z b k =
    le_trans (blocks_cost s after x z (length (list_at s b)) (drop (start after (list_at s b) / 64 * 64) (list_at s b)))
    (le_trans (keep-drop (live_at s.events) (start after (list_at s b) / 64 * 64) (list_at s b)) (live_le s (list_at s b) k.rising k.bound))

join_cost : (f : ℕ → List Work) (c : ℕ) (bs : List ℕ) → ((b : ℕ) → Mem b bs → total (f b) ≤ c) → total (join (map f bs)) ≤ length bs * c
unfolding join total
join_cost f c [] h = omega arith
join_cost f c (b ∷ bs) h =
    le_trans (le_of_eq (total-append (f b) (join (map f bs)))) (law (total (f b)) (total (join (map f bs))) (h b (inl refl)) (join_cost f c bs (λ i m. h i (inr m))))
  where
    law : (u v : ℕ) → u ≤ c → v ≤ length bs * c → u + v ≤ suc (length bs) * c
    law u v p q = omega arith

phase2_cost : (s : State) → ListsOk s → length s.lists ≤ limit s.given.form → (after x z : ℕ)
    → total (phase2 s after x z) ≤ limit s.given.form * most s.given.form (living s)
unfolding phase2
phase2_cost s k few after x z =
    le_trans (join_cost (list_work s s.given.form after x z) (most s.given.form (living s)) bits (λ b m. list_cost s s.given.form after x z b (k.ok b (there b m))))
    (mul-le-mul_right (most s.given.form (living s)) (le_trans (length-keep (touches (plane s) x z) ids) (le_trans (le_of_eq (length_from 0 (length s.lists))) few)))
  where
    ids : List ℕ
    ids = from 0 (length s.lists)

    bits : List ℕ
    bits = keep (touches (plane s) x z) ids

    there : (b : ℕ) → Mem b bits → b < length s.lists
    there b m = omega (arith, (from-Mem 0 (length s.lists) b (keep-Mem (touches (plane s) x z) b ids m).0).1)

-- ---- a look

-- what a look may cost at most: each live event once in phase 1, and each list once in phase 2
unfoldable pub dearest : Form → ℕ → ℕ
dearest f m = m + limit f * most f m

pub look_enough : (s : State) → Good s → dearest s.given.form (living s) ≤ s.given.allowance → (kind : Kind) (q : ℕ) → NotOut (look kind q s)
unfolding look look_for looked1 looked2 dearest
look_enough s g h kind q = first (walk (phase1 s a p.x p.z) s.given.allowance) (leaves (phase1 s a p.x p.z) rest s.given.allowance (omega (arith, phase1_cost s a p.x p.z g.past)))
  where
    p : Pauli
    p = axis paulis kind q s.frame

    a : Label
    a = axis labels kind q s.sketch

    rest : ℕ
    rest = limit s.given.form * most s.given.form (living s)

    second : (id : ℕ) (v : Walk) → Leaves 0 v → NotOut (looked2 s (sign p) id v)
    second id (done left) k = tt
    second id (stopped i left) k = tt
    second id (dry left) k = k

    first : (v : Walk) → Leaves rest v → NotOut (looked1 s (sign p) p.x p.z v)
    first (done left) k = tt
    first (stopped id left) k =
        second id (walk (phase2 s id p.x p.z) left)
        (leaves (phase2 s id p.x p.z) 0 left (omega (arith, phase2_cost s g.lists_ok g.few id p.x p.z)))
    first (dry left) k = k

-- 12,000 live events are never too many for an allowance of 1,048,576
pub never_out : (s : State) → Good s → living s ≤ 12000 → s.given.allowance ≡ 1048576 → (kind : Kind) (q : ℕ) → NotOut (look kind q s)
never_out s g h e = look_enough s g (subst (λ (w : ℕ). dearest s.given.form (living s) ≤ w) (sym e) (cheap s.given.form (living s) h))
  where
    cheap : (f : Form) (m : ℕ) → m ≤ 12000 → dearest f m ≤ 1048576
    cheap scalar m h = unfold dearest limit most in omega arith
    cheap sliced m h = unfold dearest limit most in omega arith

-- what the end line counts as live is the live events
pub tally-live : (s : State) → (tally s).live ≡ living s
unfolding tally living
tally-live s = law _ _ _ (keep_both (λ e. e.live) s.events)
  where
    law : (a b n : ℕ) → a + b ≡ n → n - b ≡ a
    law a b n e = omega arith
