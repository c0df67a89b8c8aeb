-- A sliced list with its counts: what an append, a mark of death and a rebuild make of it. Assumes nothing.
use mathlib.Core.Path.{◌≡◌, sym, ap, ◌∙◌, subst}
use mathlib.Core.Logic.{inl, inr, ⊎_elim}
use mathlib.Core.Bool.{Bool, true, false, cond}
use mathlib.Core.List.{List, [], ◌∷◌, ◌++◌}
use Prim.Native.Nat.{ℕ, ◌+◌, ◌-◌, ◌*◌, ◌≤◌, ◌<◌}
use native.Mathlib.Omega.{arith}
use borrow.Author.Tests.{lt-ltb, le-ltb}
use lib.ListN.{length, get_or, set, take, drop, length-set, length-append}
use lib.Seq.{get_or-set_same, get_or-set_other}
use Rattle.model.specs.Pauli.{has}
use Rattle.model.specs.Events.{words}
use Rattle.pauli.proofs.Digits.{three}
use Rattle.std.specs.Prelude.{Result, Ok, IsErr}
use Rattle.pauli.specs.declared.corrupt.Corrupt.{Corrupt}
use Rattle.std.specs.Prelude.{Option, Some, None}
use Rattle.lists.specs.Lists.{Counts, Among, Only, is_live, drops_at, left, still, Rises, Sought}
use Rattle.lists.specs.Scalars.{pushed}
use Rattle.lists.proofs.ScalarLaws.{same_Ok, err_not}
use Rattle.sliced.specs.Blocks.{Entry, dead, entry, mask_place, live_place, sliced_room, Reps, Sliced, SlicedTo, UsedBlocks, Source, RisingIds, kept, killed_at}
use Rattle.sliced.specs.Steps.{Appended, Killed, Rebuilt}
use Rattle.sliced.proofs.RebuildLaws.{part_get, part_length, Appended-Only, not_before}

-- ---- words before the list

-- the list stays where the words from base on stay
Reps-keep : (g f : List ℕ) (base cap n : ℕ) (m : List Entry) → ((k : ℕ) → base ≤ k → get_or f k 0 ≡ get_or g k 0) → Reps g base cap n m → Reps f base cap n m
Reps-keep g f base cap n m e r = record {
  within = r.within;
  ids = λ i l. e (base + i) (omega arith) ∙ r.ids i l;
  xs = λ b p j lb lp lj. ap (λ (x : ℕ). has x j) (e (mask_place base cap n b + (2 * p + 0)) (omega arith)) ∙ r.xs b p j lb lp lj;
  zs = λ b p j lb lp lj. ap (λ (x : ℕ). has x j) (e (mask_place base cap n b + (2 * p + 1)) (omega arith)) ∙ r.zs b p j lb lp lj;
  lives = λ b j lb lj. ap (λ (x : ℕ). has x j) (e (live_place base cap n b) (omega arith)) ∙ r.lives b j lb lj;
}

-- the counts are written over words g that are the list m: f is g but for them
sliced_to : (h g f : List ℕ) (at base cap n : ℕ) (m : List Entry) (d : ℕ) → at + 2 ≤ base → Only (UsedBlocks base cap n (length m)) h g → Only (Among at 2) g f
    → Counts f at (length m) d → Reps g base cap n m → SlicedTo h at base cap n m d f
sliced_to h g f at base cap n m d l o p c r = record {
  holds = record { counts = c; reps = Reps-keep g f base cap n m (λ k lk. p.kept k (λ u. omega (arith, u.1))) r };
  only = record {
    same_length = p.same_length ∙ o.same_length;
    kept = λ k w. p.kept k (λ u. w (inl u)) ∙ o.kept k (λ u. w (inr u));
  };
}

-- one count written, or both
one_len : (g : List ℕ) (at v : ℕ) → Only (Among at 2) g (set g at v)
one_len g at v = record { same_length = length-set g at v; kept = λ k w. get_or-set_other g at k v 0 (λ q. w (omega arith, omega arith)) }

one_dead : (g : List ℕ) (at v : ℕ) → Only (Among at 2) g (set g (at + 1) v)
one_dead g at v = record { same_length = length-set g (at + 1) v; kept = λ k w. get_or-set_other g (at + 1) k v 0 (λ q. w (omega arith, omega arith)) }

both_counts : (g : List ℕ) (at v w : ℕ) → Only (Among at 2) g (set (set g at v) (at + 1) w)
both_counts g at v w = record {
  same_length = length-set (set g at v) (at + 1) w ∙ length-set g at v;
  kept = λ k u. get_or-set_other (set g at v) (at + 1) k w 0 (λ q. u (omega arith, omega arith)) ∙ get_or-set_other g at k v 0 (λ q. u (omega arith, omega arith));
}

-- ---- an append

pub pushed_to : (h : List ℕ) (at base cap n : ℕ) (e : Entry) (g : List ℕ) (m : List Entry) (d len : ℕ) → at + 2 ≤ base → base ≤ length h
    → Sliced h at base cap n m d → get_or h at 0 ≡ len → Appended h base cap n len e g → SlicedTo h at base cap n (pushed e m) d (set g at (len + 1))
unfolding pushed
pushed_to h at base cap n e g m d len l fits s q a =
    let long : length m ≡ len = sym s.counts.len ∙ q in
    let more : length (m ++ (e ∷ [])) ≡ len + 1 = length-append m (e ∷ []) ∙ omega arith in
    sliced_to h g (set g at (len + 1)) at base cap n (m ++ (e ∷ [])) d l
    (subst (λ (k : ℕ). Only (UsedBlocks base cap n k) h g) (sym more) (Appended-Only h base cap n len e g a))
    (one_len g at (len + 1))
    (record {
      len = get_or-set_same g at (len + 1) 0 (omega (arith, a.long)) ∙ sym more;
      dead = get_or-set_other g at (at + 1) (len + 1) 0 (λ z. omega arith)
          ∙ (Appended-Only h base cap n len e g a).kept (at + 1) (not_before base cap n (len + 1) (at + 1) (omega arith)) ∙ s.counts.dead;
    })
    (a.reps m long s.reps)

-- ---- a death

-- the numbers of a list rise where it is read as a part of the slice
pub part_Rises : (h : List ℕ) (base cap n : ℕ) (m : List Entry) (len : ℕ) → base + len ≤ length h → length m ≡ len → Reps h base cap n m → RisingIds m
    → Rises (take (base + len - base) (drop base h))
part_Rises h base cap n m len fits long r rise i j l lj =
    let e : length (take (base + len - base) (drop base h)) ≡ len = part_length h base len fits in
    let a : get_or (take (base + len - base) (drop base h)) i 0 ≡ (entry m i).id = part_get h base len i (omega arith) ∙ r.ids i (omega arith) in
    let b : get_or (take (base + len - base) (drop base h)) j 0 ≡ (entry m j).id = part_get h base len j (omega arith) ∙ r.ids j (omega arith) in
    omega (arith, a, b, rise i j l (omega arith))

-- a place that is found is one of the list's
pub found_in : (h : List ℕ) (base len id p : ℕ) (r : Option ℕ) → base + len ≤ length h → Sought (take (base + len - base) (drop base h)) id r → r ≡ Some p → p < len
found_in h base len id p r fits f e =
    let at_p : (p < length (take (base + len - base) (drop base h))) × (get_or (take (base + len - base) (drop base h)) p 0 ≡ id) =
    subst (λ (v : Option ℕ). Sought (take (base + len - base) (drop base h)) id v) e f in
    omega (arith, at_p.0, part_length h base len fits)

-- two places of one number are the same
rising_same : (m : List Entry) (p q : ℕ) → RisingIds m → p < length m → q < length m → (entry m p).id ≡ (entry m q).id → p ≡ q
rising_same m p q rise lp lq e =
    ⊎_elim (λ (l : q < p). absurd (omega (arith, rise q p l lp))) (⊎_elim (λ (z : p ≡ q). z) (λ (l : p < q). absurd (omega (arith, rise p q l lq)))) (three p q)

module _ (h : List ℕ) (at base cap n : ℕ) (alive axes events : ℕ) (m : List Entry) (d pos len dd : ℕ) (fits : base + sliced_room cap n ≤ length h) (l : at + 2 ≤ base)
    (s : Sliced h at base cap n m d) (ql : get_or h at 0 ≡ len) (qd : get_or h (at + 1) 0 ≡ dd) where
  long : length m ≡ len
  long = sym s.counts.len ∙ ql

  deads : d ≡ dd
  deads = sym s.counts.dead ∙ qd

  -- what is found is the place
  pub Found-is : (id p : ℕ) (r : Option ℕ) → len ≤ cap → Sought (take (base + len - base) (drop base h)) id r → r ≡ Some p → RisingIds m → pos < length m → (entry m pos).id ≡ id → p ≡ pos
  Found-is id p r lc f e rise lp q =
      let at_p : (p < length (take (base + len - base) (drop base h))) × (get_or (take (base + len - base) (drop base h)) p 0 ≡ id) =
      subst (λ (v : Option ℕ). Sought (take (base + len - base) (drop base h)) id v) e f in
      let lm : length (take (base + len - base) (drop base h)) ≡ len = part_length h base len (omega arith) in
      let lq : p < len = omega (arith, at_p.0) in
      rising_same m p pos rise (omega (arith, long)) lp (sym (s.reps.ids p (omega (arith, long))) ∙ sym (part_get h base len p lq) ∙ at_p.1 ∙ sym q)

  pub not_lost : (id : ℕ) (r : Option ℕ) → len ≤ cap → Sought (take (base + len - base) (drop base h)) id r → r ≡ None → RisingIds m → pos < length m → (entry m pos).id ≡ id → ⊥
  not_lost id r lc f e rise lp q =
      let none_at : Rises (take (base + len - base) (drop base h)) → (p : ℕ) → p < length (take (base + len - base) (drop base h)) → get_or (take (base + len - base) (drop base h)) p 0 ≡ id → ⊥ =
      subst (λ (v : Option ℕ). Sought (take (base + len - base) (drop base h)) id v) e f in
      let lm : length (take (base + len - base) (drop base h)) ≡ len = part_length h base len (omega arith) in
      none_at (part_Rises h base cap n m len (omega arith) long s.reps rise) pos (omega (arith, long)) (part_get h base len pos (omega (arith, long)) ∙ s.reps.ids pos lp ∙ q)

  pub marked_to : (p : ℕ) (g : List ℕ) → p ≡ pos → pos < length m → 2 * (dd + 1) ≤ len → Killed h base cap n p g
      → SlicedTo h at base cap n (killed_at h alive d pos m) (still 2 (d + 1) (length m)) (set g (at + 1) (dd + 1))
  unfolding killed_at left still drops_at words
  marked_to p g e lp few k =
      let same : length (set m pos (dead (entry m pos))) ≡ length m = length-set m pos (dead (entry m pos)) in
      let few_is : 2 * (d + 1) ≤ length m = omega (arith, long, deads) in
      let no : drops_at 2 (d + 1) (length m) ≡ false = le-ltb (length m) (2 * (d + 1)) few_is in
      let to : killed_at h alive d pos m ≡ set m pos (dead (entry m pos)) =
      ap (λ (v : ℕ). cond (drops_at 2 (d + 1) v) (kept (is_live h alive) m) (set m pos (dead (entry m pos)))) same
      ∙ ap (λ (b : Bool). cond b (kept (is_live h alive) m) (set m pos (dead (entry m pos)))) no in
      let stays : still 2 (d + 1) (length m) ≡ dd + 1 = ap (λ (b : Bool). cond b 0 (d + 1)) no ∙ ap (λ (v : ℕ). v + 1) deads in
      let kp : Killed h base cap n pos g = subst (λ (v : ℕ). Killed h base cap n v g) e k in
      subst (λ (t : List Entry). SlicedTo h at base cap n t (still 2 (d + 1) (length m)) (set g (at + 1) (dd + 1))) (sym to)
      (subst (λ (v : ℕ). SlicedTo h at base cap n (set m pos (dead (entry m pos))) v (set g (at + 1) (dd + 1))) (sym stays)
      (sliced_to h g (set g (at + 1) (dd + 1)) at base cap n (set m pos (dead (entry m pos))) (dd + 1) l
      (record {
        same_length = kp.long;
        kept = λ j w. kp.other j (λ q. w (inr (inr (omega (arith, same), omega (arith, same)))));
      })
      (one_dead g at (dd + 1))
      (record {
        len = get_or-set_other g (at + 1) at (dd + 1) 0 (λ z. omega arith) ∙ kp.other at (λ z. omega arith) ∙ s.counts.len ∙ sym same;
        dead = get_or-set_same g (at + 1) (dd + 1) 0 (omega (arith, kp.long));
      })
      (kp.reps m lp s.reps)))

  pub Rebuilt-to : (r : Result ℕ Corrupt) (j : ℕ) (g : List ℕ) → len < 2 * (dd + 1) → r ≡ Ok j → Source h n axes events m → Rebuilt h base cap n len alive axes events r g
      → SlicedTo h at base cap n (killed_at h alive d pos m) (still 2 (d + 1) (length m)) (set (set g at j) (at + 1) 0)
  unfolding killed_at left still drops_at
  Rebuilt-to r j g many e src b =
      let same : length (set m pos (dead (entry m pos))) ≡ length m = length-set m pos (dead (entry m pos)) in
      let many_is : length m < 2 * (d + 1) = omega (arith, long, deads) in
      let yes : drops_at 2 (d + 1) (length m) ≡ true = lt-ltb (length m) (2 * (d + 1)) many_is in
      let to : killed_at h alive d pos m ≡ kept (is_live h alive) m =
      ap (λ (v : ℕ). cond (drops_at 2 (d + 1) v) (kept (is_live h alive) m) (set m pos (dead (entry m pos)))) same
      ∙ ap (λ (b : Bool). cond b (kept (is_live h alive) m) (set m pos (dead (entry m pos)))) yes in
      let none_dead : still 2 (d + 1) (length m) ≡ 0 = ap (λ (b : Bool). cond b 0 (d + 1)) yes in
      let a = b.all m long s.reps src in
      let count : j ≡ length (kept (is_live h alive) m) = same_Ok j (length (kept (is_live h alive) m)) (sym e ∙ a.0) in
      subst (λ (t : List Entry). SlicedTo h at base cap n t (still 2 (d + 1) (length m)) (set (set g at j) (at + 1) 0)) (sym to)
      (subst (λ (v : ℕ). SlicedTo h at base cap n (kept (is_live h alive) m) v (set (set g at j) (at + 1) 0)) (sym none_dead)
      (sliced_to h g (set (set g at j) (at + 1) 0) at base cap n (kept (is_live h alive) m) 0 l a.2
      (both_counts g at j 0)
      (record {
        len = get_or-set_other (set g at j) (at + 1) at 0 0 (λ z. omega arith) ∙ get_or-set_same g at j 0 (omega (arith, b.long)) ∙ count;
        dead = get_or-set_same (set g at j) (at + 1) 0 0 (omega (arith, b.long, length-set g at j));
      })
      a.1))

  pub Rebuilt-not_bad : {A : Type 0} → (r : Result ℕ Corrupt) (g : List ℕ) → IsErr r → Source h n axes events m → Rebuilt h base cap n len alive axes events r g → A
  Rebuilt-not_bad r g e src b = err_not r (length (kept (is_live h alive) m)) e (b.all m long s.reps src).0
