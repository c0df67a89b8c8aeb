-- A loop over the set digits of a signature that makes each of their lists a new one: list b has its counts at at + 2 b and its room of
-- `size` words at base + b * size. `Family` is its state with w left to do.
--     none      where the loop begins
--     more      a turn: list p becomes its new one, and only words that it relies on are written
--     all       where it ends, all lists are the new ones, or, off the signature, the old ones
--     before    the words before the counts are as they were
-- Said once for both forms; `Scalars-..` and `Sliceds-..` are the two. Assumes nothing.
use mathlib.Core.Path.{◌≡◌, refl, sym, ap, ap₂, ◌∙◌, subst}
use mathlib.Core.Logic.{◌⊎◌, inl, inr, ⊎_elim}
use mathlib.Core.Bool.{Bool, cond, false≢true}
use mathlib.Core.List.{List, [], ◌∷◌}
use Prim.Native.Nat.{ℕ, zero, suc, ◌+◌, ◌*◌, ◌/◌, ◌%◌, ◌^◌, ◌≤◌, ◌<◌, suc-le-suc}
use native.Mathlib.Nat.{mul-le-mul_right, suc-mul, le_trans, le_of_eq, zero-lt-suc}
use native.Mathlib.Omega.{arith}
use lib.ListN.{length, get_or}
use lib.Arith.{lt-one}
use lib.Dec.{eqb}
use lib.Bits.{bit_or}
use borrow.Author.Tests.{eq-eqb, ne_eqb}
use Rattle.std.specs.Prelude.{Result, Ok, Err, IsOk, IsErr}
use Rattle.model.specs.Pauli.{has}
use Rattle.model.specs.Events.{words}
use Rattle.model.specs.Demands.{Mem}
use Rattle.model.proofs.Digits.{has_zero}
use Rattle.model.proofs.Members.{keep_same}
use Rattle.pauli.specs.Digits.{Took}
use Rattle.pauli.proofs.Digits.{three, has_past, has-or}
use Rattle.pauli.proofs.Walk.{same?}
use Rattle.lists.specs.Lists.{Only, Among, Counts, Known, is_live, left, drops_at}
use Rattle.lists.specs.Scalars.{Scalar, UsedScalar, ScalarTo, noted}
use Rattle.sliced.specs.Blocks.{Entry, entry, sliced_room, live_place, mask_place, Reps, Sliced, UsedSliced, SlicedTo, Source, kept, killed_at}
use Rattle.sliced.proofs.BlockLaws.{bit?}
use Rattle.support.specs.Families.{chosen, Scalars, ScalarsTo, Sliceds, SlicedsTo}

-- ---- rooms

-- the room of list b ends before that of a later list
pub rooms_rise : (size b p : ℕ) → b < p → b * size + size ≤ p * size
rooms_rise size b p h = le_trans (le_of_eq (sym (suc-mul b size))) (mul-le-mul_right size h)

-- k is a word of list b
abbrev pub InRoom : (at base size b k : ℕ) → Type 0
InRoom at base size b k = Among (at + 2 * b) 2 k ⊎ Among (base + b * size) size k

-- two lists have no word in common
rooms_apart : (L at base size b p k : ℕ) → at + 2 * L ≤ base → b < L → p < L → (b ≡ p → ⊥) → InRoom at base size b k → InRoom at base size p k → ⊥
rooms_apart L at base size b p k c lb lp n =
    ⊎_elim
    (λ (i : Among (at + 2 * b) 2 k).
    ⊎_elim (λ (j : Among (at + 2 * p) 2 k). n (omega arith)) (λ (j : Among (base + p * size) size k). omega arith))
    (λ (i : Among (base + b * size) size k).
    ⊎_elim (λ (j : Among (at + 2 * p) 2 k). omega arith)
    (λ (j : Among (base + p * size) size k).
    ⊎_elim (λ (l : p < b). omega (arith, rooms_rise size p b l))
    (⊎_elim n (λ (l : b < p). omega (arith, rooms_rise size b p l))) (three b p)))

-- ---- the loop

-- a word that a list of sig relies on
abbrev pub UsedBy : {A : Type 0} → (L : ℕ) → (ℕ → A → ℕ → Type 0) → (sig : ℕ) → (ℕ → A) → ℕ → Type 0
UsedBy L Used sig ys k = (b : ℕ) × (b < L) × (has sig b ≡ 1) × Used b (ys b) k

-- the lists xs with d dead are the lists ys with e dead where the digit of sig is done
pub record Family {A : Type 0} (L : ℕ) (One : ℕ → List ℕ → A → ℕ → Type 0) (Used : ℕ → A → ℕ → Type 0) (sig : ℕ) (xs ys : ℕ → A) (d e : ℕ → ℕ) (h₀ : List ℕ) (w : ℕ) (h : List ℕ) : Type 0 where
  pub done : (b : ℕ) → b < L → has sig b ≡ 1 → has w b ≡ 0 → One b h (ys b) (e b)
  pub todo : (b : ℕ) → b < L → has w b ≡ 1 → One b h (xs b) (d b)
  pub rest : (b : ℕ) → b < L → has sig b ≡ 0 → One b h (xs b) (d b)
  pub only : Only (UsedBy L Used sig ys) h₀ h

module _ {A : Type 0} (L at base size : ℕ) (One : ℕ → List ℕ → A → ℕ → Type 0) (Used : ℕ → A → ℕ → Type 0)
    (inside : (b : ℕ) (h : List ℕ) (x : A) (d : ℕ) → One b h x d → (k : ℕ) → Used b x k → InRoom at base size b k)
    (stays : (b : ℕ) (h g : List ℕ) (x : A) (d : ℕ) → ((k : ℕ) → InRoom at base size b k → get_or g k 0 ≡ get_or h k 0) → One b h x d → One b g x d)
    (sig : ℕ) (xs ys : ℕ → A) (d e : ℕ → ℕ) (h₀ : List ℕ) where
  none : ((b : ℕ) → b < L → One b h₀ (xs b) (d b)) → Family L One Used sig xs ys d e h₀ sig h₀
  none all = record {
    done = λ b l s t. absurd (omega arith);
    todo = λ b l t. all b l;
    rest = λ b l t. all b l;
    only = record { same_length = refl; kept = λ k n. refl };
  }

  other : (h g : List ℕ) (p : ℕ) (y : A) (c : ℕ) → at + 2 * L ≤ base → p < L → One p g y c → Only (Used p y) h g
      → (b : ℕ) (x : A) (a : ℕ) → b < L → (b ≡ p → ⊥) → One b h x a → One b g x a
  other h g p y c room lp to on b x a l n = stays b h g x a (λ k i. on.kept k (λ u. rooms_apart L at base size b p k room l lp n i (inside p g y c to k u)))

  pub more : (w p v : ℕ) (h g : List ℕ) → at + 2 * L ≤ base → Took w p v → p < L → has sig p ≡ 1 → One p g (ys p) (e p) → Only (Used p (ys p)) h g
      → Family L One Used sig xs ys d e h₀ w h → Family L One Used sig xs ys d e h₀ v g
  more w p v h g room t lp s to on f = record {
    done = λ b l sb z.
        ⊎_elim (λ q. subst (λ (i : ℕ). One i g (ys i) (e i)) (sym q) to)
        (λ q. other h g p (ys p) (e p) room lp to on b (ys b) (e b) l q (f.done b l sb (sym (t.other b q) ∙ z))) (same? b p);
    todo = λ b l o.
        let q : b ≡ p → ⊥ = λ q. taken (subst (λ (i : ℕ). has v i ≡ 1) q o) in
        other h g p (ys p) (e p) room lp to on b (xs b) (d b) l q (f.todo b l (sym (t.other b q) ∙ o));
    rest = λ b l z. other h g p (ys p) (e p) room lp to on b (xs b) (d b) l (λ q. off (subst (λ (i : ℕ). has sig i ≡ 0) q z)) (f.rest b l z);
    only = record { same_length = on.same_length ∙ f.only.same_length; kept = λ k n. on.kept k (λ u. n (p, lp, s, u)) ∙ f.only.kept k n };
  }
    where
      taken : has v p ≡ 1 → ⊥
      taken o = let z = t.gone in omega arith

      off : has sig p ≡ 0 → ⊥
      off o = omega arith

  all : (h : List ℕ) → ((b : ℕ) → has sig b ≡ 0 → (xs b ≡ ys b) × (d b ≡ e b)) → Family L One Used sig xs ys d e h₀ 0 h
      → (b : ℕ) → b < L → One b h (ys b) (e b)
  all h same f b l =
      ⊎_elim (λ z. subst (λ (a : ℕ). One b h (ys b) a) (same b z).1 (subst (λ (x : A). One b h x (d b)) (same b z).0 (f.rest b l z)))
      (λ o. f.done b l o (has_zero b)) (bit? sig b)

  before : (w : ℕ) (h : List ℕ) → ((b : ℕ) (x : A) (k : ℕ) → Used b x k → at ≤ k) → Family L One Used sig xs ys d e h₀ w h
      → (k : ℕ) → k < at → get_or h k 0 ≡ get_or h₀ k 0
  before w h after f k l = f.only.kept k (λ u. let m = after u.0 (ys u.0) k u.3 in omega arith)

-- ---- old and new lists

module _ {A : Type 0} (sig : ℕ) (F G : ℕ → A) (b : ℕ) where
  pub chosen_in : has sig b ≡ 1 → F b ≡ chosen sig F G b
  unfolding chosen
  chosen_in o = sym (ap (λ (t : Bool). cond t (F b) (G b)) (eq-eqb (has sig b) 1 o))

  pub chosen_out : has sig b ≡ 0 → G b ≡ chosen sig F G b
  unfolding chosen
  chosen_out z = sym (ap (λ (t : Bool). cond t (F b) (G b)) (ne_eqb (has sig b) 1 (λ o. omega arith)))

-- ---- scalar lists

abbrev pub ScalarIn : (at base cap b : ℕ) → List ℕ → List ℕ → ℕ → Type 0
ScalarIn at base cap b h ids d = Scalar h (at + 2 * b) (base + b * cap) cap ids d

abbrev pub ScalarUses : (at base cap b : ℕ) → List ℕ → ℕ → Type 0
ScalarUses at base cap b ids k = UsedScalar (at + 2 * b) (base + b * cap) (length ids) k

abbrev pub ScalarFamily : (at base cap sig : ℕ) → (xs ys : ℕ → List ℕ) → (d e : ℕ → ℕ) → List ℕ → ℕ → List ℕ → Type 0
ScalarFamily at base cap = Family 64 (ScalarIn at base cap) (ScalarUses at base cap)

-- the two counts of a list
Counts-stay : (at k d : ℕ) (h g : List ℕ) → ((j : ℕ) → Among at 2 j → get_or g j 0 ≡ get_or h j 0) → Counts h at k d → Counts g at k d
Counts-stay at k d h g same c = record { len = same at (omega arith, omega arith) ∙ c.len; dead = same (at + 1) (omega arith, omega arith) ∙ c.dead }

module _ (at base cap : ℕ) where
  pub scalar_inside : (b : ℕ) (h ids : List ℕ) (d : ℕ) → ScalarIn at base cap b h ids d → (k : ℕ) → ScalarUses at base cap b ids k → InRoom at base cap b k
  scalar_inside b h ids d o k =
      ⊎_elim (λ i. inl i) (λ (i : Among (base + b * cap) (length ids) k). let w = o.within in inr (i.0, omega arith))

  pub scalar_stays : (b : ℕ) (h g ids : List ℕ) (d : ℕ) → ((k : ℕ) → InRoom at base cap b k → get_or g k 0 ≡ get_or h k 0) → ScalarIn at base cap b h ids d → ScalarIn at base cap b g ids d
  scalar_stays b h g ids d same o = record {
    counts = Counts-stay (at + 2 * b) (length ids) d h g (λ j i. same j (inl i)) o.counts;
    within = o.within;
    numbers = λ i l. let w = o.within in same (base + b * cap + i) (inr (omega arith, omega arith)) ∙ o.numbers i l;
  }

  scalar_behind : at ≤ base → (b : ℕ) (ids : List ℕ) (k : ℕ) → ScalarUses at base cap b ids k → at ≤ k
  scalar_behind c b ids k = ⊎_elim (λ (i : Among (at + 2 * b) 2 k). omega arith) (λ (i : Among (base + b * cap) (length ids) k). omega arith)

  module _ (sig : ℕ) (xs ys : ℕ → List ℕ) (d e : ℕ → ℕ) (h₀ : List ℕ) where
    pub Scalars-none : Scalars h₀ at base cap xs d → ScalarFamily at base cap sig xs ys d e h₀ sig h₀
    Scalars-none = none 64 at base cap (ScalarIn at base cap) (ScalarUses at base cap) scalar_inside scalar_stays sig xs ys d e h₀

    pub scalars_more : (w p v : ℕ) (h g ids : List ℕ) (c : ℕ) → at + 2 * 64 ≤ base → Took w p v → p < 64 → has sig p ≡ 1 → ids ≡ ys p → c ≡ e p
        → ScalarTo h (at + 2 * p) (base + p * cap) cap ids c g → ScalarFamily at base cap sig xs ys d e h₀ w h → ScalarFamily at base cap sig xs ys d e h₀ v g
    scalars_more w p v h g ids c room t l s q r to =
        let now = subst (λ (n : ℕ). ScalarTo h (at + 2 * p) (base + p * cap) cap (ys p) n g) r (subst (λ (m : List ℕ). ScalarTo h (at + 2 * p) (base + p * cap) cap m c g) q to) in
        more 64 at base cap (ScalarIn at base cap) (ScalarUses at base cap) scalar_inside scalar_stays sig xs ys d e h₀ w p v h g room t l s now.holds now.only

    pub scalars_all : (h : List ℕ) → ((b : ℕ) → has sig b ≡ 0 → (xs b ≡ ys b) × (d b ≡ e b)) → ScalarFamily at base cap sig xs ys d e h₀ 0 h → ScalarsTo h₀ at base cap sig ys e h
    scalars_all h same f = record {
      holds = all 64 at base cap (ScalarIn at base cap) (ScalarUses at base cap) scalar_inside scalar_stays sig xs ys d e h₀ h same f;
      only = f.only;
    }

    pub scalars_before : (w : ℕ) (h : List ℕ) → at ≤ base → ScalarFamily at base cap sig xs ys d e h₀ w h → (k : ℕ) → k < at → get_or h k 0 ≡ get_or h₀ k 0
    scalars_before w h c = before 64 at base cap (ScalarIn at base cap) (ScalarUses at base cap) scalar_inside scalar_stays sig xs ys d e h₀ w h (scalar_behind c)

-- ---- sliced lists

abbrev pub SlicedIn : (at base cap n b : ℕ) → List ℕ → List Entry → ℕ → Type 0
SlicedIn at base cap n b h m d = Sliced h (at + 2 * b) (base + b * sliced_room cap n) cap n m d

abbrev pub SlicedUses : (at base cap n b : ℕ) → List Entry → ℕ → Type 0
SlicedUses at base cap n b m k = UsedSliced (at + 2 * b) (base + b * sliced_room cap n) cap n (length m) k

abbrev pub SlicedFamily : (at base cap n sig : ℕ) → (xs ys : ℕ → List Entry) → (d e : ℕ → ℕ) → List ℕ → ℕ → List ℕ → Type 0
SlicedFamily at base cap n = Family n (SlicedIn at base cap n) (SlicedUses at base cap n)

words-le : (a b : ℕ) → a ≤ b → words a ≤ words b
unfolding words
words-le a b h = omega arith

-- the words of a list from base on
Reps-stay : (base cap n : ℕ) (h g : List ℕ) (m : List Entry) → ((k : ℕ) → Among base (sliced_room cap n) k → get_or g k 0 ≡ get_or h k 0) → Reps h base cap n m → Reps g base cap n m
Reps-stay base cap n h g m same r = record {
  within = r.within;
  ids = λ i l. let w = r.within in same (base + i) (omega arith, omega arith) ∙ r.ids i l;
  xs = λ b p j l lp lj. mask b p 0 j (entry m (b * 64 + j)).x l lp (omega arith) (r.xs b p j l lp lj);
  zs = λ b p j l lp lj. mask b p 1 j (entry m (b * 64 + j)).z l lp (omega arith) (r.zs b p j l lp lj);
  lives = λ b j l lj.
      let u = words-le (length m) cap r.within in
      ap (λ (v : ℕ). has v j) (same (live_place base cap n b) (omega arith, omega arith)) ∙ r.lives b j l lj;
}
  where
    mask : (b p t j a : ℕ) → b < words (length m) → p < n → t < 2 → has (get_or h (mask_place base cap n b + (2 * p + t)) 0) j ≡ has a p
        → has (get_or g (mask_place base cap n b + (2 * p + t)) 0) j ≡ has a p
    mask b p t j a l lp lt e =
        let u = words-le (length m) cap r.within in
        let f = rooms_rise (2 * n) b (words cap) (omega arith) in
        ap (λ (v : ℕ). has v j) (same (mask_place base cap n b + (2 * p + t)) (omega arith, omega arith)) ∙ e

module _ (at base cap n : ℕ) where
  pub sliced_inside : (b : ℕ) (h : List ℕ) (m : List Entry) (d : ℕ) → SlicedIn at base cap n b h m d → (k : ℕ) → SlicedUses at base cap n b m k → InRoom at base (sliced_room cap n) b k
  sliced_inside b h m d o k =
      let w = o.reps.within in
      let u = words-le (length m) cap w in
      let v = mul-le-mul_right (2 * n) u in
      ⊎_elim (λ i. inl i)
      (⊎_elim (λ (i : Among (base + b * sliced_room cap n) (length m) k). inr (i.0, omega arith))
      (⊎_elim (λ (i : Among (base + b * sliced_room cap n + cap) (words (length m) * (2 * n)) k). inr (omega arith, omega arith))
      (λ (i : Among (live_place (base + b * sliced_room cap n) cap n 0) (words (length m)) k). inr (omega arith, omega arith))))

  pub sliced_stays : (b : ℕ) (h g : List ℕ) (m : List Entry) (d : ℕ) → ((k : ℕ) → InRoom at base (sliced_room cap n) b k → get_or g k 0 ≡ get_or h k 0) → SlicedIn at base cap n b h m d → SlicedIn at base cap n b g m d
  sliced_stays b h g m d same o = record {
    counts = Counts-stay (at + 2 * b) (length m) d h g (λ j i. same j (inl i)) o.counts;
    reps = Reps-stay (base + b * sliced_room cap n) cap n h g m (λ j i. same j (inr i)) o.reps;
  }

  sliced_behind : at ≤ base → (b : ℕ) (m : List Entry) (k : ℕ) → SlicedUses at base cap n b m k → at ≤ k
  sliced_behind c b m k =
      ⊎_elim (λ (i : Among (at + 2 * b) 2 k). omega arith)
      (⊎_elim (λ (i : Among (base + b * sliced_room cap n) (length m) k). omega arith)
      (⊎_elim (λ (i : Among (base + b * sliced_room cap n + cap) (words (length m) * (2 * n)) k). omega arith)
      (λ (i : Among (live_place (base + b * sliced_room cap n) cap n 0) (words (length m)) k). omega arith)))

  module _ (sig : ℕ) (xs ys : ℕ → List Entry) (d e : ℕ → ℕ) (h₀ : List ℕ) where
    pub Sliceds-none : Sliceds h₀ at base cap n xs d → SlicedFamily at base cap n sig xs ys d e h₀ sig h₀
    Sliceds-none = none n at base (sliced_room cap n) (SlicedIn at base cap n) (SlicedUses at base cap n) sliced_inside sliced_stays sig xs ys d e h₀

    pub sliceds_more : (w p v : ℕ) (h g : List ℕ) (m : List Entry) (c : ℕ) → at + 2 * n ≤ base → Took w p v → p < n → has sig p ≡ 1 → m ≡ ys p → c ≡ e p
        → SlicedTo h (at + 2 * p) (base + p * sliced_room cap n) cap n m c g → SlicedFamily at base cap n sig xs ys d e h₀ w h → SlicedFamily at base cap n sig xs ys d e h₀ v g
    sliceds_more w p v h g m c room t l s q r to =
        let now = subst (λ (a : ℕ). SlicedTo h (at + 2 * p) (base + p * sliced_room cap n) cap n (ys p) a g) r (subst (λ (a : List Entry). SlicedTo h (at + 2 * p) (base + p * sliced_room cap n) cap n a c g) q to) in
        more n at base (sliced_room cap n) (SlicedIn at base cap n) (SlicedUses at base cap n) sliced_inside sliced_stays sig xs ys d e h₀ w p v h g room t l s now.holds now.only

    pub sliceds_all : (h : List ℕ) → ((b : ℕ) → has sig b ≡ 0 → (xs b ≡ ys b) × (d b ≡ e b)) → SlicedFamily at base cap n sig xs ys d e h₀ 0 h → SlicedsTo h₀ at base cap n sig ys e h
    sliceds_all h same f = record {
      holds = all n at base (sliced_room cap n) (SlicedIn at base cap n) (SlicedUses at base cap n) sliced_inside sliced_stays sig xs ys d e h₀ h same f;
      only = f.only;
    }

    -- where sig has no digit
    pub Sliceds-still : sig ≡ 0 → ((b : ℕ) → has sig b ≡ 0 → (xs b ≡ ys b) × (d b ≡ e b)) → Sliceds h₀ at base cap n xs d → SlicedsTo h₀ at base cap n sig ys e h₀
    Sliceds-still z same s = sliceds_all h₀ same (subst (λ (w : ℕ). SlicedFamily at base cap n sig xs ys d e h₀ w h₀) z (Sliceds-none s))

    pub sliceds_before : (w : ℕ) (h : List ℕ) → at ≤ base → SlicedFamily at base cap n sig xs ys d e h₀ w h → (k : ℕ) → k < at → get_or h k 0 ≡ get_or h₀ k 0
    sliceds_before w h c = before n at base (sliced_room cap n) (SlicedIn at base cap n) (SlicedUses at base cap n) sliced_inside sliced_stays sig xs ys d e h₀ w h (sliced_behind c)

-- ---- digits

-- a word's digits are still among those of sig
pub still_within : (sig w p v : ℕ) → Took w p v → ((j : ℕ) → has w j ≡ 1 → has sig j ≡ 1) → (j : ℕ) → has v j ≡ 1 → has sig j ≡ 1
still_within sig w p v t sub j o = ⊎_elim (λ (q : j ≡ p). absurd (gone (subst (λ (i : ℕ). has v i ≡ 1) q o))) (λ q. sub j (sym (t.other j q) ∙ o)) (same? j p)
  where
    gone : has v p ≡ 1 → ⊥
    gone o = let z = t.gone in omega arith

-- the set digits of a number below 2 ^ n are below n
pub digit_below : (n v i : ℕ) → v < 2 ^ n → has v i ≡ 1 → i < n
digit_below n v i h o = ⊎_elim (λ (l : i < n). l) (λ r. absurd (no (⊎_elim (λ (e : n ≡ i). omega arith) (λ (l : n < i). omega arith) r))) (three n i)
  where
    no : n ≤ i → ⊥
    no l = let z = has_past n v i h l in omega arith

pub or_digit_below : (n x z i : ℕ) → x < 2 ^ n → z < 2 ^ n → has (bit_or x z) i ≡ 1 → i < n
or_digit_below n x z i hx hz o = ⊎_elim (λ (l : i < n). l) (λ r. absurd (no (⊎_elim (λ (e : n ≡ i). omega arith) (λ (l : n < i). omega arith) r))) (three n i)
  where
    no : n ≤ i → ⊥
    no l = let a = has_past n x i hx l in let b = has_past n z i hz l in let c = has-or x z i in omega arith

-- the answer of a call that must not fail
pub refuses : {A E : Type 0} (r : Result A E) → IsErr r → IsOk r → ⊥
refuses (Ok x) p q = false≢true p
refuses (Err x) p q = false≢true q

-- ---- what a kill reads stands before the lists

module _ (h g : List ℕ) (at alive events : ℕ) (fits : alive + words events ≤ at) (same : (k : ℕ) → k < at → get_or g k 0 ≡ get_or h k 0) where
  live_same : (e : ℕ) → e < events → is_live g alive e ≡ is_live h alive e
  unfolding is_live words
  live_same e l = ap (λ (v : ℕ). eqb (has v (e % 64)) 1) (same (alive + e / 64) (omega arith))

  pub noted_same : (d : ℕ) (ids : List ℕ) → Known events ids → noted g alive d ids ≡ noted h alive d ids
  unfolding noted left
  noted_same d ids k = ap (λ (s : List ℕ). cond (drops_at 4 (d + 1) (length ids)) s ids) (keep_same (is_live g alive) (is_live h alive) ids (λ i m. live_same i (known ids k i m)))
    where
      known : (ids : List ℕ) → Known events ids → (i : ℕ) → Mem i ids → i < events
      known [] k i m = absurd m
      known (a ∷ s) k i (inl e) = subst (λ (j : ℕ). j < events) (sym e) (k 0 (zero-lt-suc (length s)))
      known (a ∷ s) k i (inr m) = known s (λ j l. k (suc j) (suc-le-suc l)) i m

  kept_same : (m : List Entry) → ((i : ℕ) → i < length m → (entry m i).id < events) → kept (is_live g alive) m ≡ kept (is_live h alive) m
  unfolding kept
  kept_same [] k = refl
  kept_same (e ∷ m) k = rw (live_same e.id (k 0 (zero-lt-suc (length m))), kept_same m (λ i l. k (suc i) (suc-le-suc l)))

  pub killed_same : (d pos : ℕ) (m : List Entry) → ((i : ℕ) → i < length m → (entry m i).id < events) → killed_at g alive d pos m ≡ killed_at h alive d pos m
  unfolding killed_at
  killed_same d pos m k = rw (kept_same m k)

  pub Source-same : (n axes : ℕ) (m : List Entry) → axes + 2 * events ≤ at → Source h n axes events m → Source g n axes events m
  Source-same n axes m a s = record {
    known = s.known;
    xs = λ i l. let q = s.known i l in same (axes + 2 * (entry m i).id) (omega arith) ∙ s.xs i l;
    zs = λ i l. let q = s.known i l in same (axes + (2 * (entry m i).id + 1)) (omega arith) ∙ s.zs i l;
    small_x = s.small_x;
    small_z = s.small_z;
  }

-- ---- the size of a sliced room, as the code has it

abbrev pub size_of : (cap n : ℕ) → ℕ
size_of cap n = cap + (cap + 63) / 64 * (2 * n) + (cap + 63) / 64

pub one_fits : (base cap n len : ℕ) → 0 < n → base + n * sliced_room cap n ≤ len → size_of cap n ≤ len
unfolding words
one_fits base cap n len l h = omega (arith, rooms_rise (size_of cap n) 0 n l)

pub room_fits : (base cap n p len : ℕ) → p < n → base + n * sliced_room cap n ≤ len → base + (p * size_of cap n + size_of cap n) ≤ len
unfolding words
room_fits base cap n p len l h = omega (arith, rooms_rise (size_of cap n) p n l)

pub room_below : (base cap n p len : ℕ) → p < n → base + n * sliced_room cap n < len → base + (p * size_of cap n + size_of cap n) < len
unfolding words
room_below base cap n p len l h = omega (arith, rooms_rise (size_of cap n) p n l)

-- an axis that is not 1 has a qubit
pub some_qubit : (n v : ℕ) → v < 2 ^ n → (v ≡ 0 → ⊥) → 0 < n
some_qubit zero v h non = absurd (non (lt-one h))
some_qubit (suc n) v h non = zero-lt-suc n

pub or_some_qubit : (n x z : ℕ) → x < 2 ^ n → z < 2 ^ n → (bit_or x z ≡ 0 → ⊥) → 0 < n
or_some_qubit zero x z hx hz non = absurd (non (ap₂ bit_or (lt-one hx) (lt-one hz)))
or_some_qubit (suc n) x z hx hz non = zero-lt-suc n
