-- The words of a sliced list: which stand apart, and what an appended entry and a mark of death make of them, step by step. Assumes nothing.
use mathlib.Core.Path.{◌≡◌, refl, sym, ap, ◌∙◌, subst}
use mathlib.Core.Logic.{◌⊎◌, inl, inr, ⊎_elim}
use mathlib.Core.List.{List, [], ◌∷◌, ◌++◌}
use Prim.Native.Nat.{ℕ, ◌+◌, ◌-◌, ◌*◌, ◌/◌, ◌%◌, ◌^◌, ◌≤◌, ◌<◌}
use native.Mathlib.Nat.{suc-mul, mul-le-mul_right}
use native.Mathlib.Omega.{arith}
use native.Mathlib.Decide.{dec_lt}
use lib.Bits.{bit_and, bit_or}
use lib.ListN.{length, get_or, set, length-set, length-append, get_or-append, get_or-eq_default}
use lib.Seq.{get_or-set_same, get_or-set_other, get_or_at}
use Rattle.model.specs.Pauli.{has}
use Rattle.model.specs.Events.{words}
use Rattle.model.proofs.Digits.{has-lt, has_zero}
use Rattle.pauli.specs.Digits.{Took}
use Rattle.pauli.specs.Fill.{Written}
use Rattle.pauli.proofs.Digits.{three, set_same, set_other, bit_is, clear_same, clear_other}
use Rattle.pauli.proofs.Walk.{same?, Passed}
use Rattle.lists.specs.Scalars.{pushed}
use Rattle.sliced.specs.Blocks.{Entry, no_entry, fresh, dead, entry, mask_place, live_place, Blocks, Reps}
use Rattle.sliced.specs.Steps.{Spread, Marked, Opened, Appended, Killed}
use Rattle.sliced.proofs.MaskLaws.{place_lt}

-- a block of s words ends before the end of so many blocks
pub block_end : (b k s : ℕ) → b < k → b * s + s ≤ k * s
block_end b k s l = omega (arith, suc-mul b s, mul-le-mul_right s l)

-- a has is 0 or 1
pub bit? : (n i : ℕ) → (has n i ≡ 0) ⊎ (has n i ≡ 1)
bit? n i = ⊎_elim (λ l. inl (omega arith)) (λ r. ⊎_elim (λ e. inr (sym e)) (λ l. absurd (omega (arith, has-lt n i))) r) (three 1 (has n i))

-- ---- one more entry

pub snoc_old : (m : List Entry) (e : Entry) (i : ℕ) → (i ≡ length m → ⊥) → entry (m ++ (e ∷ [])) i ≡ entry m i
snoc_old m e i d = ⊎_elim (λ l. past l) (λ r. ⊎_elim (λ q. absurd (d q)) (λ l. get_or-append m (e ∷ []) no_entry i l) r) (three i (length m))
  where
    past : length m < i → entry (m ++ (e ∷ [])) i ≡ entry m i
    past l = get_or-eq_default (m ++ (e ∷ [])) no_entry (omega (arith, length-append m (e ∷ []))) ∙ sym (get_or-eq_default m no_entry (omega arith))

pub snoc_new : (m : List Entry) (e : Entry) (i : ℕ) → i ≡ length m → entry (m ++ (e ∷ [])) i ≡ e
snoc_new m e i q = get_or_at m e [] no_entry i (sym q)

pub past_none : (m : List Entry) (i : ℕ) → length m ≤ i → entry m i ≡ no_entry
past_none m i l = get_or-eq_default m no_entry l

-- ---- the masks of one plane

-- mark, by digits
mark_new : (h : List ℕ) (at odd s j : ℕ) (g : List ℕ) → Marked h at odd s (2 ^ j) g → (p : ℕ) → has (get_or h (at + (2 * p + odd)) 0) j ≡ 0
    → has (get_or g (at + (2 * p + odd)) 0) j ≡ has s p
mark_new h at odd s j g k p z =
    ⊎_elim
    (λ a. ap (λ (x : ℕ). has x j) (k.other (at + (2 * p + odd)) (λ q b e. absurd_zero p q a b (omega arith))) ∙ z ∙ sym a)
    (λ a. ap (λ (x : ℕ). has x j) (k.here p a) ∙ set_same (get_or h (at + (2 * p + odd)) 0) j ∙ sym a)
    (bit? s p)
  where
    absurd_zero : (p q : ℕ) → has s p ≡ 0 → has s q ≡ 1 → p ≡ q → ⊥
    absurd_zero p q a b e = let c : has s p ≡ 1 = ap (has s) e ∙ b in omega arith

mark_old : (h : List ℕ) (at odd s j : ℕ) (g : List ℕ) → Marked h at odd s (2 ^ j) g → (p i : ℕ) → (i ≡ j → ⊥)
    → has (get_or g (at + (2 * p + odd)) 0) i ≡ has (get_or h (at + (2 * p + odd)) 0) i
mark_old h at odd s j g k p i d =
    ⊎_elim
    (λ a. ap (λ (x : ℕ). has x i) (k.other (at + (2 * p + odd)) (λ q b e. absurd_zero p q a b (omega arith))))
    (λ a. ap (λ (x : ℕ). has x i) (k.here p a) ∙ set_other (get_or h (at + (2 * p + odd)) 0) j i d)
    (bit? s p)
  where
    absurd_zero : (p q : ℕ) → has s p ≡ 0 → has s q ≡ 1 → p ≡ q → ⊥
    absurd_zero p q a b e = let c : has s p ≡ 1 = ap (has s) e ∙ b in omega arith

module _ (base cap n : ℕ) where
  -- the masks at odd have the sets f of the entries of m, in k blocks
  abbrev pub Plane : List ℕ → ℕ → (Entry → ℕ) → ℕ → List Entry → Type 0
  Plane h odd f k m = (b p j : ℕ) → b < k → p < n → j < 64 → has (get_or h (mask_place base cap n b + (2 * p + odd)) 0) j ≡ has (f (entry m (b * 64 + j))) p

  pub Plane-keep : (h g : List ℕ) (odd : ℕ) (f : Entry → ℕ) (k : ℕ) (m : List Entry)
      → ((b p : ℕ) → b < k → p < n → get_or g (mask_place base cap n b + (2 * p + odd)) 0 ≡ get_or h (mask_place base cap n b + (2 * p + odd)) 0)
      → Plane h odd f k m → Plane g odd f k m
  Plane-keep h g odd f k m e pl b p j lb lp lj = ap (λ (x : ℕ). has x j) (e b p lb lp) ∙ pl b p j lb lp lj

  -- the next entry's set is marked
  pub Plane-mark : (h g : List ℕ) (odd : ℕ) (f : Entry → ℕ) (b j : ℕ) (m : List Entry) (e : Entry) → odd < 2 → j < 64 → length m ≡ b * 64 + j → f no_entry ≡ 0
      → Plane h odd f (b + 1) m → ((p : ℕ) → has (f e) p ≡ 1 → p < n) → Marked h (mask_place base cap n b) odd (f e) (2 ^ j) g → Plane g odd f (b + 1) (m ++ (e ∷ []))
  Plane-mark h g odd f b j m e lo lj len f0 pl small mk c p i lc lp li =
      ⊎_elim (λ q. here q) (λ d. away d) (same? c b)
    where
      new : i ≡ j → has (get_or g (mask_place base cap n b + (2 * p + odd)) 0) i ≡ has (f (entry (m ++ (e ∷ [])) (b * 64 + i))) p
      new q =
          ap (λ (x : ℕ). has (get_or g (mask_place base cap n b + (2 * p + odd)) 0) x) q
          ∙ mark_new h (mask_place base cap n b) odd (f e) j g mk p
          (pl b p j (omega arith) lp lj ∙ ap (λ (x : Entry). has (f x) p) (past_none m (b * 64 + j) (omega arith)) ∙ ap (λ (x : ℕ). has x p) f0 ∙ has_zero p)
          ∙ ap (λ (x : Entry). has (f x) p) (sym (snoc_new m e (b * 64 + i) (omega arith)))

      old : (i ≡ j → ⊥) → has (get_or g (mask_place base cap n b + (2 * p + odd)) 0) i ≡ has (f (entry (m ++ (e ∷ [])) (b * 64 + i))) p
      old d =
          mark_old h (mask_place base cap n b) odd (f e) j g mk p i d ∙ pl b p i (omega arith) lp li
          ∙ ap (λ (x : Entry). has (f x) p) (sym (snoc_old m e (b * 64 + i) (λ q. d (omega arith))))

      here : c ≡ b → has (get_or g (mask_place base cap n c + (2 * p + odd)) 0) i ≡ has (f (entry (m ++ (e ∷ [])) (c * 64 + i))) p
      here q =
          subst (λ (c : ℕ). has (get_or g (mask_place base cap n c + (2 * p + odd)) 0) i ≡ has (f (entry (m ++ (e ∷ [])) (c * 64 + i))) p) (sym q)
          (⊎_elim new old (same? i j))

      away : (c ≡ b → ⊥) → has (get_or g (mask_place base cap n c + (2 * p + odd)) 0) i ≡ has (f (entry (m ++ (e ∷ [])) (c * 64 + i))) p
      away d =
          ap (λ (x : ℕ). has x i) (mk.other (mask_place base cap n c + (2 * p + odd)) (λ q a z. omega (arith, block_end c b (2 * n) (omega arith))))
          ∙ pl c p i lc lp li
          ∙ ap (λ (x : Entry). has (f x) p) (sym (snoc_old m e (c * 64 + i) (λ q. omega arith)))

-- ---- clearing and marking, turn by turn

-- ---- words cleared

-- count words from at on are 0 in g, and all else is as in h
pub record Cleared (h : List ℕ) (at count : ℕ) (g : List ℕ) : Type 0 where
  pub zeros : (k : ℕ) → k < count → get_or g (at + k) 0 ≡ 0
  pub other : (k : ℕ) → ((i : ℕ) → i < count → k ≡ at + i → ⊥) → get_or g k 0 ≡ get_or h k 0
  pub long : length g ≡ length h

Cleared-from : (h : List ℕ) (at count : ℕ) (g : List ℕ) → Written h at count (λ i. 0) g → Cleared h at count g
Cleared-from h at count g w = record {
  zeros = w.here;
  other = λ k d. elim (dec_lt k at) [
    | yes l ↦ w.kept k (inl l)
    | no l ↦ elim (dec_lt k (at + count)) [
      | yes m ↦ absurd (d (k - at) (omega arith) (omega arith))
      | no m ↦ w.kept k (inr (omega arith))
    ]
  ];
  long = w.same_length;
}

-- ---- `mark`, with the digits of w left to do

pub record Marking (h : List ℕ) (at odd set bit w : ℕ) (g : List ℕ) : Type 0 where
  pub part : (p : ℕ) → has w p ≡ 1 → has set p ≡ 1
  pub here : Passed (λ (p : ℕ). get_or g (at + (2 * p + odd)) 0 ≡ bit_or (get_or h (at + (2 * p + odd)) 0) bit) set w
  pub other : (k : ℕ) → ((p : ℕ) → has set p ≡ 1 → has w p ≡ 0 → k ≡ at + (2 * p + odd) → ⊥) → get_or g k 0 ≡ get_or h k 0
  pub long : length g ≡ length h

pub Marking-none : (h : List ℕ) (at odd s bit : ℕ) → Marking h at odd s bit s h
Marking-none h at odd s bit = record {
  part = λ p e. e;
  here = λ p a b. absurd (omega arith);
  other = λ k d. refl;
  long = refl;
}

pub Marking-more : (h : List ℕ) (at odd s bit w q v : ℕ) (g : List ℕ) → Took w q v → has w q ≡ 1 → at + (2 * q + odd) < length h → Marking h at odd s bit w g
    → Marking h at odd s bit v (set g (at + (2 * q + odd)) (bit_or (get_or g (at + (2 * q + odd)) 0) bit))
Marking-more h at odd s bit w q v g t o l c = record {
  part = λ p e. c.part p (sym (t.other p (λ z. no_one (ap (has v) (sym z) ∙ e))) ∙ e);
  here = λ p a b. ⊎_elim (λ e. at_q p e) (λ d. at_p p a b d) (same? p q);
  other = λ k d. get_or-set_other g (at + (2 * q + odd)) k (bit_or (get_or g (at + (2 * q + odd)) 0) bit) 0 (λ e. d q (c.part q o) t.gone e) ∙ c.other k (λ p a b e. d p a (v_zero p b) e);
  long = length-set g (at + (2 * q + odd)) (bit_or (get_or g (at + (2 * q + odd)) 0) bit) ∙ c.long;
}
  where
    no_one : has v q ≡ 1 → ⊥
    no_one e = let z = t.gone in omega arith

    v_zero : (p : ℕ) → has w p ≡ 0 → has v p ≡ 0
    v_zero p b = t.other p (λ e. let z : has w q ≡ 0 = ap (has w) (sym e) ∙ b in omega arith) ∙ b

    old : get_or g (at + (2 * q + odd)) 0 ≡ get_or h (at + (2 * q + odd)) 0
    old = c.other (at + (2 * q + odd)) (λ p a b e. let z : has w q ≡ 0 = ap (has w) (omega arith) ∙ b in omega arith)

    at_q : (p : ℕ) → p ≡ q → get_or (set g (at + (2 * q + odd)) (bit_or (get_or g (at + (2 * q + odd)) 0) bit)) (at + (2 * p + odd)) 0 ≡ bit_or (get_or h (at + (2 * p + odd)) 0) bit
    at_q p e =
        subst (λ (r : ℕ). get_or (set g (at + (2 * q + odd)) (bit_or (get_or g (at + (2 * q + odd)) 0) bit)) (at + (2 * r + odd)) 0 ≡ bit_or (get_or h (at + (2 * r + odd)) 0) bit) (sym e)
        (get_or-set_same g (at + (2 * q + odd)) (bit_or (get_or g (at + (2 * q + odd)) 0) bit) 0 (omega (arith, c.long)) ∙ ap (λ (y : ℕ). bit_or y bit) old)

    at_p : (p : ℕ) → has s p ≡ 1 → has v p ≡ 0 → (p ≡ q → ⊥) → get_or (set g (at + (2 * q + odd)) (bit_or (get_or g (at + (2 * q + odd)) 0) bit)) (at + (2 * p + odd)) 0 ≡ bit_or (get_or h (at + (2 * p + odd)) 0) bit
    at_p p a b d =
        get_or-set_other g (at + (2 * q + odd)) (at + (2 * p + odd)) (bit_or (get_or g (at + (2 * q + odd)) 0) bit) 0 (λ e. d (omega arith))
        ∙ c.here p a (sym (t.other p d) ∙ b)

pub Marking-all : (h : List ℕ) (at odd s bit w : ℕ) (g : List ℕ) → w ≡ 0 → Marking h at odd s bit w g → Marked h at odd s bit g
Marking-all h at odd s bit w g z c = record {
  here = λ p a. c.here p a (ap (λ (x : ℕ). has x p) z ∙ has_zero p);
  other = λ k d. c.other k (λ p a b e. d p a e);
  long = c.long;
}

-- ---- appending, step by step: the block is opened, both sets are marked, the live digit is set, the number is stored

-- a mask of the next entry's block, and its live word, are within the slice
pub mask_in : (h : List ℕ) (base cap n len i : ℕ) → Spread h base cap n → len < cap → i < 2 * n → mask_place base cap n (len / 64) + i < length h
unfolding words
mask_in h base cap n len i room l li = omega (arith, room.fits, block_end (len / 64) (words cap) (2 * n) (omega arith))

pub masks_in : (h : List ℕ) (base cap n len : ℕ) → Spread h base cap n → len < cap → mask_place base cap n (len / 64) + 2 * n ≤ length h
unfolding words
masks_in h base cap n len room l = omega (arith, room.fits, block_end (len / 64) (words cap) (2 * n) (omega arith))

-- a block that is in use already
pub Opened-old : (h : List ℕ) (base cap n len : ℕ) → (len % 64 ≡ 0 → ⊥) → Opened h base cap n len h
unfolding words
Opened-old h base cap n len d = record {
  ready = λ m e r. subst (λ (k : ℕ). Blocks h base cap n k m) (omega arith) r;
  other = λ k a b. refl;
  long = refl;
}

-- a fresh block: its masks are cleared to g, and its live word to 0
module _ (h : List ℕ) (base cap n len : ℕ) (g : List ℕ) (room : Spread h base cap n) (l : len < cap) (even : len % 64 ≡ 0) (w : Written h (mask_place base cap n (len / 64)) (2 * n) (λ i. 0) g) where
  c : Cleared h (mask_place base cap n (len / 64)) (2 * n) g
  c = Cleared-from h (mask_place base cap n (len / 64)) (2 * n) g w

  -- a word that stands apart is as it was
  fresh_other : (k : ℕ) → ((i : ℕ) → i < 2 * n → k ≡ mask_place base cap n (len / 64) + i → ⊥) → (k ≡ live_place base cap n (len / 64) → ⊥)
      → get_or (set g (live_place base cap n (len / 64)) 0) k 0 ≡ get_or h k 0
  fresh_other k a b = get_or-set_other g (live_place base cap n (len / 64)) k 0 0 b ∙ c.other k a

  fresh_Plane : (odd : ℕ) (f : Entry → ℕ) (m : List Entry) → odd < 2 → f no_entry ≡ 0 → length m ≡ len → Plane base cap n h odd f (words (length m)) m
      → Plane base cap n (set g (live_place base cap n (len / 64)) 0) odd f (len / 64 + 1) m
  unfolding words
  fresh_Plane odd f m lo f0 e pl b p j lb lp lj = ⊎_elim here away (same? b (len / 64))
    where
      here : b ≡ len / 64 → has (get_or (set g (live_place base cap n (len / 64)) 0) (mask_place base cap n b + (2 * p + odd)) 0) j ≡ has (f (entry m (b * 64 + j))) p
      here q =
          subst (λ (b : ℕ). has (get_or (set g (live_place base cap n (len / 64)) 0) (mask_place base cap n b + (2 * p + odd)) 0) j ≡ has (f (entry m (b * 64 + j))) p) (sym q)
          (ap (λ (x : ℕ). has x j)
          (get_or-set_other g (live_place base cap n (len / 64)) (mask_place base cap n (len / 64) + (2 * p + odd)) 0 0 (λ z. omega (arith, block_end (len / 64) (words cap) (2 * n) (omega arith)))
          ∙ c.zeros (2 * p + odd) (omega arith))
          ∙ has_zero j
          ∙ sym (ap (λ (x : Entry). has (f x) p) (past_none m (len / 64 * 64 + j) (omega arith)) ∙ ap (λ (x : ℕ). has x p) f0 ∙ has_zero p))

      away : (b ≡ len / 64 → ⊥) → has (get_or (set g (live_place base cap n (len / 64)) 0) (mask_place base cap n b + (2 * p + odd)) 0) j ≡ has (f (entry m (b * 64 + j))) p
      away d =
          ap (λ (x : ℕ). has x j)
          (fresh_other (mask_place base cap n b + (2 * p + odd)) (λ i li z. omega (arith, block_end b (len / 64) (2 * n) (omega arith)))
          (λ z. omega (arith, block_end b (words cap) (2 * n) (omega arith))))
          ∙ pl b p j (omega arith) lp lj

  fresh_live : (m : List Entry) → length m ≡ len → Reps h base cap n m → (b j : ℕ) → b < len / 64 + 1 → j < 64
      → has (get_or (set g (live_place base cap n (len / 64)) 0) (live_place base cap n b) 0) j ≡ (entry m (b * 64 + j)).live
  unfolding words
  fresh_live m e r b j lb lj = ⊎_elim here away (same? b (len / 64))
    where
      here : b ≡ len / 64 → has (get_or (set g (live_place base cap n (len / 64)) 0) (live_place base cap n b) 0) j ≡ (entry m (b * 64 + j)).live
      here q =
          subst (λ (b : ℕ). has (get_or (set g (live_place base cap n (len / 64)) 0) (live_place base cap n b) 0) j ≡ (entry m (b * 64 + j)).live) (sym q)
          (ap (λ (x : ℕ). has x j) (get_or-set_same g (live_place base cap n (len / 64)) 0 0 (omega (arith, c.long, room.fits))) ∙ has_zero j
          ∙ sym (ap (λ (x : Entry). x.live) (past_none m (len / 64 * 64 + j) (omega arith))))

      away : (b ≡ len / 64 → ⊥) → has (get_or (set g (live_place base cap n (len / 64)) 0) (live_place base cap n b) 0) j ≡ (entry m (b * 64 + j)).live
      away d =
          ap (λ (x : ℕ). has x j)
          (fresh_other (live_place base cap n b) (λ i li z. omega (arith, block_end (len / 64) (words cap) (2 * n) (omega arith))) (λ z. d (omega arith)))
          ∙ r.lives b j (omega arith) lj

  pub Opened-fresh : Opened h base cap n len (set g (live_place base cap n (len / 64)) 0)
  unfolding words
  Opened-fresh = record {
    ready = λ m e r. record {
      within = r.within;
      ids = λ i li. fresh_other (base + i) (λ j lj z. omega arith) (λ z. omega arith) ∙ r.ids i li;
      xs = fresh_Plane 0 (λ x. x.x) m (omega arith) refl e r.xs;
      zs = fresh_Plane 1 (λ x. x.z) m (omega arith) refl e r.zs;
      lives = fresh_live m e r;
    };
    other = fresh_other;
    long = length-set g (live_place base cap n (len / 64)) 0 ∙ c.long;
  }

-- the whole step: g is the opened block, gx with the x set marked, gz with the z set too
module _ (h : List ℕ) (base cap n len id x z : ℕ) (g gx gz : List ℕ) (room : Spread h base cap n) (l : len < cap) (hx : x < 2 ^ n) (hz : z < 2 ^ n)
    (o : Opened h base cap n len g)
    (mx : Marked g (mask_place base cap n (len / 64)) 0 x (2 ^ (len % 64)) gx)
    (mz : Marked gx (mask_place base cap n (len / 64)) 1 z (2 ^ (len % 64)) gz) where
  abbrev pub at_live : ℕ
  at_live = live_place base cap n (len / 64)

  abbrev pub live_set : List ℕ
  live_set = set gz (live_place base cap n (len / 64)) (bit_or (get_or gz (live_place base cap n (len / 64)) 0) (2 ^ (len % 64)))

  abbrev pub id_set : List ℕ
  id_set = set live_set (base + len) id

  abbrev new : Entry
  new = record { id = id; x = x; z = z; live = 1 }

  -- two words that the last two stores pass by
  past : (k : ℕ) → (k ≡ base + len → ⊥) → (k ≡ at_live → ⊥) → get_or id_set k 0 ≡ get_or gz k 0
  past k a b = get_or-set_other live_set (base + len) k id 0 a ∙ get_or-set_other gz at_live k (bit_or (get_or gz at_live 0) (2 ^ (len % 64))) 0 b

  inside : (b : ℕ) → b < len / 64 + 1 → b * (2 * n) + 2 * n ≤ words cap * (2 * n)
  unfolding words
  inside b lb = block_end b (words cap) (2 * n) (omega arith)

  -- a word that is no mask of the block is not marked
  not_x : (k : ℕ) → ((i : ℕ) → i < 2 * n → k ≡ mask_place base cap n (len / 64) + i → ⊥) → get_or gx k 0 ≡ get_or g k 0
  not_x k a = mx.other k (λ p d e. a (2 * p + 0) (omega (arith, place_lt n x p hx d)) e)

  not_z : (k : ℕ) → ((i : ℕ) → i < 2 * n → k ≡ mask_place base cap n (len / 64) + i → ⊥) → get_or gz k 0 ≡ get_or gx k 0
  not_z k a = mz.other k (λ p d e. a (2 * p + 1) (omega (arith, place_lt n z p hz d)) e)

  module _ (m : List Entry) (e : length m ≡ len) (r : Reps h base cap n m) where
    was : Blocks g base cap n (len / 64 + 1) m
    was = o.ready m e r

    xs_are : Plane base cap n id_set 0 (λ v. v.x) (len / 64 + 1) (m ++ (new ∷ []))
    unfolding words
    xs_are =
        Plane-keep base cap n gx id_set 0 (λ v. v.x) (len / 64 + 1) (m ++ (new ∷ []))
        (λ b p lb lp. past (mask_place base cap n b + (2 * p + 0)) (λ q. omega arith) (λ q. omega (arith, inside b lb))
        ∙ mz.other (mask_place base cap n b + (2 * p + 0)) (λ p' d q. apart b p p' lb lp q))
        (Plane-mark base cap n g gx 0 (λ v. v.x) (len / 64) (len % 64) m new (omega arith) (omega arith) (omega arith) refl was.xs (λ p d. place_lt n x p hx d) mx)
      where
        apart : (b p p' : ℕ) → b < len / 64 + 1 → p < n → mask_place base cap n b + (2 * p + 0) ≡ mask_place base cap n (len / 64) + (2 * p' + 1) → ⊥
        apart b p p' lb lp q =
            ⊎_elim (λ s. let t : b * (2 * n) ≡ len / 64 * (2 * n) = ap (λ (y : ℕ). y * (2 * n)) s in omega arith)
            (λ d. omega (arith, block_end b (len / 64) (2 * n) (omega arith))) (same? b (len / 64))

    zs_are : Plane base cap n id_set 1 (λ v. v.z) (len / 64 + 1) (m ++ (new ∷ []))
    unfolding words
    zs_are =
        Plane-keep base cap n gz id_set 1 (λ v. v.z) (len / 64 + 1) (m ++ (new ∷ []))
        (λ b p lb lp. past (mask_place base cap n b + (2 * p + 1)) (λ q. omega arith) (λ q. omega (arith, inside b lb)))
        (Plane-mark base cap n gx gz 1 (λ v. v.z) (len / 64) (len % 64) m new (omega arith) (omega arith) (omega arith) refl
        (Plane-keep base cap n g gx 1 (λ v. v.z) (len / 64 + 1) m (λ b p lb lp. mx.other (mask_place base cap n b + (2 * p + 1)) (λ p' d q. apart b p p' lb lp q)) was.zs)
        (λ p d. place_lt n z p hz d) mz)
      where
        apart : (b p p' : ℕ) → b < len / 64 + 1 → p < n → mask_place base cap n b + (2 * p + 1) ≡ mask_place base cap n (len / 64) + (2 * p' + 0) → ⊥
        apart b p p' lb lp q =
            ⊎_elim (λ s. let t : b * (2 * n) ≡ len / 64 * (2 * n) = ap (λ (y : ℕ). y * (2 * n)) s in omega arith)
            (λ d. omega (arith, block_end b (len / 64) (2 * n) (omega arith))) (same? b (len / 64))

    -- a live word before the last store
    live_was : (b : ℕ) → b < len / 64 + 1 → get_or gz (live_place base cap n b) 0 ≡ get_or g (live_place base cap n b) 0
    unfolding words
    live_was b lb =
        not_z (live_place base cap n b) (λ i li q. omega (arith, inside (len / 64) (omega arith)))
        ∙ not_x (live_place base cap n b) (λ i li q. omega (arith, inside (len / 64) (omega arith)))

    lives_are : (b j : ℕ) → b < len / 64 + 1 → j < 64 → has (get_or id_set (live_place base cap n b) 0) j ≡ (entry (m ++ (new ∷ [])) (b * 64 + j)).live
    unfolding words
    lives_are b j lb lj =
        ap (λ (y : ℕ). has y j) (get_or-set_other live_set (base + len) (live_place base cap n b) id 0 (λ q. omega arith))
        ∙ ⊎_elim here away (same? b (len / 64))
      where
        word : get_or live_set at_live 0 ≡ bit_or (get_or gz at_live 0) (2 ^ (len % 64))
        word = get_or-set_same gz at_live (bit_or (get_or gz at_live 0) (2 ^ (len % 64))) 0 (omega (arith, room.fits, mz.long, mx.long, o.long))

        now_one : j ≡ len % 64 → has (get_or live_set at_live 0) j ≡ (entry (m ++ (new ∷ [])) (len / 64 * 64 + j)).live
        now_one q =
            ap (λ (y : ℕ). has y j) word ∙ ap (has (bit_or (get_or gz at_live 0) (2 ^ (len % 64)))) q ∙ set_same (get_or gz at_live 0) (len % 64)
            ∙ sym (ap (λ (v : Entry). v.live) (snoc_new m new (len / 64 * 64 + j) (omega arith)))

        as_was : (j ≡ len % 64 → ⊥) → has (get_or live_set at_live 0) j ≡ (entry (m ++ (new ∷ [])) (len / 64 * 64 + j)).live
        as_was d =
            ap (λ (y : ℕ). has y j) word ∙ set_other (get_or gz at_live 0) (len % 64) j d ∙ ap (λ (y : ℕ). has y j) (live_was (len / 64) (omega arith))
            ∙ was.lives (len / 64) j (omega arith) lj ∙ sym (ap (λ (v : Entry). v.live) (snoc_old m new (len / 64 * 64 + j) (λ q. d (omega arith))))

        here : b ≡ len / 64 → has (get_or live_set (live_place base cap n b) 0) j ≡ (entry (m ++ (new ∷ [])) (b * 64 + j)).live
        here q =
            subst (λ (b : ℕ). has (get_or live_set (live_place base cap n b) 0) j ≡ (entry (m ++ (new ∷ [])) (b * 64 + j)).live) (sym q)
            (⊎_elim now_one as_was (same? j (len % 64)))

        away : (b ≡ len / 64 → ⊥) → has (get_or live_set (live_place base cap n b) 0) j ≡ (entry (m ++ (new ∷ [])) (b * 64 + j)).live
        away d =
            ap (λ (y : ℕ). has y j) (get_or-set_other gz at_live (live_place base cap n b) (bit_or (get_or gz at_live 0) (2 ^ (len % 64))) 0 (λ q. d (omega arith)) ∙ live_was b lb)
            ∙ was.lives b j lb lj ∙ sym (ap (λ (v : Entry). v.live) (snoc_old m new (b * 64 + j) (λ q. d (omega arith))))

    ids_are : (i : ℕ) → i < length (m ++ (new ∷ [])) → get_or id_set (base + i) 0 ≡ (entry (m ++ (new ∷ [])) i).id
    unfolding words
    ids_are i li = ⊎_elim here away (same? i len)
      where
        here : i ≡ len → get_or id_set (base + i) 0 ≡ (entry (m ++ (new ∷ [])) i).id
        here q =
            ap (λ (y : ℕ). get_or id_set (base + y) 0) q
            ∙ get_or-set_same live_set (base + len) id 0 (omega (arith, room.fits, mz.long, mx.long, o.long, length-set gz at_live (bit_or (get_or gz at_live 0) (2 ^ (len % 64)))))
            ∙ sym (ap (λ (v : Entry). v.id) (snoc_new m new i (omega arith)))

        away : (i ≡ len → ⊥) → get_or id_set (base + i) 0 ≡ (entry (m ++ (new ∷ [])) i).id
        away d =
            past (base + i) (λ q. d (omega arith)) (λ q. omega (arith, length-append m (new ∷ [])))
            ∙ not_z (base + i) (λ j lj q. omega (arith, length-append m (new ∷ []))) ∙ not_x (base + i) (λ j lj q. omega (arith, length-append m (new ∷ [])))
            ∙ was.ids i (omega (arith, length-append m (new ∷ []))) ∙ sym (ap (λ (v : Entry). v.id) (snoc_old m new i (λ q. d (omega arith))))

    all_are : Reps id_set base cap n (m ++ (new ∷ []))
    unfolding words
    all_are =
        subst (λ (k : ℕ). Blocks id_set base cap n k (m ++ (new ∷ []))) (omega (arith, length-append m (new ∷ [])))
        (record { within = omega (arith, length-append m (new ∷ [])); ids = ids_are; xs = xs_are; zs = zs_are; lives = lives_are })

  pub appended : Appended h base cap n len new id_set
  unfolding words pushed
  appended = record {
    reps = λ m e r. all_are m e r;
    other = λ k a b d. past k a d ∙ not_z k b ∙ not_x k b ∙ o.other k b d;
    long = length-set live_set (base + len) id ∙ length-set gz at_live (bit_or (get_or gz at_live 0) (2 ^ (len % 64))) ∙ mz.long ∙ mx.long ∙ o.long;
  }

-- the same, with the has as the machine computes it
pub Appended-by : (h : List ℕ) (base cap n len id x z bit : ℕ) (g gx gz : List ℕ) → Spread h base cap n → len < cap → x < 2 ^ n → z < 2 ^ n → bit ≡ 2 ^ (len % 64)
    → Opened h base cap n len g → Marked g (mask_place base cap n (len / 64)) 0 x bit gx → Marked gx (mask_place base cap n (len / 64)) 1 z bit gz
    → Appended h base cap n len (fresh id x z) (set (set gz (live_place base cap n (len / 64)) (bit_or (get_or gz (live_place base cap n (len / 64)) 0) bit)) (base + len) id)
unfolding words pushed
Appended-by h base cap n len id x z bit g gx gz room l hx hz q o mx mz =
    subst (λ (y : ℕ). Appended h base cap n len (fresh id x z) (set (set gz (live_place base cap n (len / 64)) (bit_or (get_or gz (live_place base cap n (len / 64)) 0) y)) (base + len) id)) (sym q)
    (appended h base cap n len id x z g gx gz room l hx hz o (subst (λ (y : ℕ). Marked g (mask_place base cap n (len / 64)) 0 x y gx) q mx)
    (subst (λ (y : ℕ). Marked gx (mask_place base cap n (len / 64)) 1 z y gz) q mz))

-- ---- one entry marked dead

module _ (h : List ℕ) (base cap n pos : ℕ) (room : Spread h base cap n) (lc : pos < cap) where
  abbrev dead_place : ℕ
  dead_place = live_place base cap n (pos / 64)

  abbrev dead_word : ℕ
  dead_word = bit_and (get_or h (live_place base cap n (pos / 64)) 0) ((2 ^ 64 - 1) - 2 ^ (pos % 64))

  module _ (m : List Entry) (l : pos < length m) (r : Reps h base cap n m) where
    -- what the mark leaves as it was
    field_same : (f : Entry → ℕ) → f (dead (entry m pos)) ≡ f (entry m pos) → (i : ℕ) → f (entry (set m pos (dead (entry m pos))) i) ≡ f (entry m i)
    field_same f q i =
        ⊎_elim
        (λ s. ap (λ (j : ℕ). f (entry (set m pos (dead (entry m pos))) j)) s ∙ ap f (get_or-set_same m pos (dead (entry m pos)) no_entry (omega arith)) ∙ q ∙ ap (λ (j : ℕ). f (entry m j)) (sym s))
        (λ d. ap f (get_or-set_other m pos i (dead (entry m pos)) no_entry d)) (same? i pos)

    dead_lives : (b j : ℕ) → b < words (length m) → j < 64 → has (get_or (set h dead_place dead_word) (live_place base cap n b) 0) j ≡ (entry (set m pos (dead (entry m pos))) (b * 64 + j)).live
    unfolding words
    dead_lives b j lb lj = ⊎_elim here away (same? b (pos / 64))
      where
        written : get_or (set h dead_place dead_word) dead_place 0 ≡ dead_word
        written = get_or-set_same h dead_place dead_word 0 (omega (arith, room.fits))

        off : j ≡ pos % 64 → has (get_or (set h dead_place dead_word) dead_place 0) j ≡ (entry (set m pos (dead (entry m pos))) (pos / 64 * 64 + j)).live
        off q =
            ap (λ (y : ℕ). has y j) written ∙ ap (has dead_word) q ∙ clear_same 64 (get_or h dead_place 0) (pos % 64) (omega arith)
            ∙ sym (ap (λ (i : ℕ). (entry (set m pos (dead (entry m pos))) i).live) (to_pos q) ∙ ap (λ (v : Entry). v.live) (get_or-set_same m pos (dead (entry m pos)) no_entry (omega arith)))
          where
            to_pos : j ≡ pos % 64 → pos / 64 * 64 + j ≡ pos
            to_pos q = omega arith

        on : (j ≡ pos % 64 → ⊥) → has (get_or (set h dead_place dead_word) dead_place 0) j ≡ (entry (set m pos (dead (entry m pos))) (pos / 64 * 64 + j)).live
        on d =
            ap (λ (y : ℕ). has y j) written ∙ clear_other 64 (get_or h dead_place 0) (pos % 64) j (omega arith) lj d ∙ r.lives (pos / 64) j (omega arith) lj
            ∙ sym (ap (λ (v : Entry). v.live) (get_or-set_other m pos (pos / 64 * 64 + j) (dead (entry m pos)) no_entry (λ q. d (omega arith))))

        here : b ≡ pos / 64 → has (get_or (set h dead_place dead_word) (live_place base cap n b) 0) j ≡ (entry (set m pos (dead (entry m pos))) (b * 64 + j)).live
        here q =
            subst (λ (b : ℕ). has (get_or (set h dead_place dead_word) (live_place base cap n b) 0) j ≡ (entry (set m pos (dead (entry m pos))) (b * 64 + j)).live) (sym q)
            (⊎_elim off on (same? j (pos % 64)))

        away : (b ≡ pos / 64 → ⊥) → has (get_or (set h dead_place dead_word) (live_place base cap n b) 0) j ≡ (entry (set m pos (dead (entry m pos))) (b * 64 + j)).live
        away d =
            ap (λ (y : ℕ). has y j) (get_or-set_other h dead_place (live_place base cap n b) dead_word 0 (λ q. d (omega arith))) ∙ r.lives b j lb lj
            ∙ sym (ap (λ (v : Entry). v.live) (get_or-set_other m pos (b * 64 + j) (dead (entry m pos)) no_entry (λ q. d (omega arith))))

    dead_all : Reps (set h dead_place dead_word) base cap n (set m pos (dead (entry m pos)))
    unfolding words
    dead_all =
        subst (λ (k : ℕ). Blocks (set h dead_place dead_word) base cap n k (set m pos (dead (entry m pos)))) (ap words (sym (length-set m pos (dead (entry m pos)))))
        (record {
          within = omega (arith, length-set m pos (dead (entry m pos)));
          ids = λ i li. get_or-set_other h dead_place (base + i) dead_word 0 (λ q. omega (arith, length-set m pos (dead (entry m pos)))) ∙ r.ids i (omega (arith, length-set m pos (dead (entry m pos)))) ∙ sym (field_same (λ v. v.id) refl i);
          xs = λ b p j lb lp lj. ap (λ (y : ℕ). has y j) (get_or-set_other h dead_place (mask_place base cap n b + (2 * p + 0)) dead_word 0 (λ q. omega (arith, block_end b (words cap) (2 * n) (omega (arith, r.within)))))
              ∙ r.xs b p j lb lp lj ∙ sym (field_same (λ v. has v.x p) refl (b * 64 + j));
          zs = λ b p j lb lp lj. ap (λ (y : ℕ). has y j) (get_or-set_other h dead_place (mask_place base cap n b + (2 * p + 1)) dead_word 0 (λ q. omega (arith, block_end b (words cap) (2 * n) (omega (arith, r.within)))))
              ∙ r.zs b p j lb lp lj ∙ sym (field_same (λ v. has v.z p) refl (b * 64 + j));
          lives = dead_lives;
        })

  -- with the mask as the machine computes it
  pub marked_dead : Killed h base cap n pos (set h (live_place base cap n (pos / 64)) (bit_and (get_or h (live_place base cap n (pos / 64)) 0) ((2 ^ 64 - 1) - (1 * 2 ^ (pos % 64)) % 2 ^ 64)))
  unfolding words
  marked_dead =
      subst (λ (y : ℕ). Killed h base cap n pos (set h (live_place base cap n (pos / 64)) (bit_and (get_or h (live_place base cap n (pos / 64)) 0) ((2 ^ 64 - 1) - y)))) (sym (bit_is 64 (pos % 64) (omega arith)))
      (record {
        reps = λ m l r. dead_all m l r;
        other = λ k d. get_or-set_other h dead_place k dead_word 0 d;
        long = length-set h dead_place dead_word;
      })
