-- Where a number stands in a rising list: the ends of a halving, and what a place in a part says of the whole list. Assumes nothing.
use mathlib.Core.Path.{◌≡◌, sym, ap, ◌∙◌, subst}
use mathlib.Core.Logic.{⊎_elim}
use mathlib.Core.List.{List}
use Prim.Native.Nat.{ℕ, ◌+◌, ◌-◌, ◌≤◌, ◌<◌}
use native.Mathlib.Omega.{arith}
use native.Mathlib.Decide.{dec_lt}
use lib.ListN.{length, get_or, take, drop}
use lib.Seq.{get_or-drop}
use Rattle.pauli.proofs.Words.{rest_part, rest_length}
use Rattle.pauli.proofs.Walk.{same?}
use Rattle.pauli.proofs.Digits.{three}
use Rattle.lists.specs.Lists.{Rises, Splits}

-- ---- halving

-- the first number past a stands at lo or later, and at hi or before
pub record Between (ids : List ℕ) (a lo hi : ℕ) : Type 0 where
  pub order : lo ≤ hi
  pub within : hi ≤ length ids
  pub below : Rises ids → (k : ℕ) → k < lo → get_or ids k 0 ≤ a
  pub above : Rises ids → (k : ℕ) → hi ≤ k → k < length ids → a < get_or ids k 0

module _ (ids : List ℕ) (a : ℕ) where
  pub between_start : Between ids a 0 (length ids)
  between_start = record { order = omega arith; within = omega arith; below = λ r k l. absurd (omega arith); above = λ r k l m. absurd (omega arith) }

  pub Between-up : (lo hi mid : ℕ) → Between ids a lo hi → lo ≤ mid → mid < hi → get_or ids mid 0 ≤ a → Between ids a (mid + 1) hi
  Between-up lo hi mid b l h e = record {
    order = omega arith;
    within = b.within;
    below = λ r k lk. ⊎_elim (λ (q : k ≡ mid). omega (arith, ap (λ (i : ℕ). get_or ids i 0) q)) (λ d. omega (arith, r k mid (omega arith) (omega (arith, b.within)))) (same? k mid);
    above = b.above;
  }

  pub Between-down : (lo hi mid to : ℕ) → Between ids a lo hi → lo ≤ to → mid ≤ to → to ≤ hi → a < get_or ids mid 0 → Between ids a lo to
  Between-down lo hi mid to b l m h e = record {
    order = l;
    within = omega (arith, b.within);
    below = b.below;
    above = λ r k lk ln. ⊎_elim (λ (q : k ≡ mid). omega (arith, ap (λ (i : ℕ). get_or ids i 0) q)) (λ d. omega (arith, r mid k (omega arith) ln)) (same? k mid);
  }

  -- a turn of the halving at mid, by its step s
  pub between_step : (lo len half mid s : ℕ) → Between ids a lo (lo + len) → mid + 1 ≡ lo + half → 1 ≤ half → half ≤ len → half - 1 ≤ len - half → (get_or ids mid 0 ≤ a → s ≡ half) → (a < get_or ids mid 0 → s ≡ 0)
      → Between ids a (lo + s) (lo + s + (len - half))
  between_step lo len half mid s b at some few low up down =
      elim (dec_lt a (get_or ids mid 0)) [
        | yes d ↦
            let e : s ≡ 0 = down d in
            let f : lo ≡ lo + s = omega arith in
            subst (λ (x : ℕ). Between ids a x (x + (len - half))) f (Between-down lo (lo + len) mid (lo + (len - half)) b (omega arith) (omega arith) (omega arith) d)
        | no d ↦
            let e : s ≡ half = up (omega arith) in
            let f : mid + 1 ≡ lo + s = omega arith in
            let g : lo + len ≡ lo + s + (len - half) = omega arith in
            subst (λ (x : ℕ). Between ids a x (lo + s + (len - half))) f
            (subst (λ (y : ℕ). Between ids a (mid + 1) y) g (Between-up lo (lo + len) mid b (omega arith) (omega arith) (omega arith)))
      ]

  pub Between-end : (lo hi : ℕ) → Between ids a lo hi → hi ≤ lo → Rises ids → Splits ids a lo
  Between-end lo hi b h r = record {
    within = omega (arith, b.order, b.within);
    below = b.below r;
    above = λ k lk ln. b.above r k (omega arith) ln;
  }

-- ---- the part from lo on

module _ (ids : List ℕ) (lo : ℕ) where
  rest_at : (k : ℕ) → get_or (take (length ids - lo) (drop lo ids)) k 0 ≡ get_or ids (lo + k) 0
  rest_at k = ap (λ (p : List ℕ). get_or p k 0) (rest_part ids lo) ∙ get_or-drop lo ids k 0

  rest_from : (p : ℕ) → lo ≤ p → get_or (take (length ids - lo) (drop lo ids)) (p - lo) 0 ≡ get_or ids p 0
  rest_from p l =
      let f : lo + (p - lo) ≡ p = omega arith in
      rest_at (p - lo) ∙ ap (λ (i : ℕ). get_or ids i 0) f

  Rises-rest : Rises ids → Rises (take (length ids - lo) (drop lo ids))
  Rises-rest r i j l m =
      let e = rest_at i in
      let f = rest_at j in
      let n = rest_length ids lo in
      omega (arith, e, f, r (lo + i) (lo + j) (omega arith) (omega (arith, n)))

  -- where lo is not past the number, and k is the first place past it in the part: lo + k is the first one in the whole list
  pub Splits-rest : (a k : ℕ) → (0 < lo → get_or ids lo 0 ≤ a) → lo < length ids → (Rises (take (length ids - lo) (drop lo ids)) → Splits (take (length ids - lo) (drop lo ids)) a k) → Rises ids → Splits ids a (lo + k)
  Splits-rest a k low inside part r =
      let s = part (Rises-rest r) in
      let n = rest_length ids lo in
      record {
        within = omega (arith, s.within, n);
        below = λ p l.
            elim (dec_lt p lo) [
              | yes q ↦ omega (arith, low (omega arith), r p lo q inside)
              | no q ↦ omega (arith, rest_from p (omega arith), s.below (p - lo) (omega arith))
            ];
        above = λ p l m. omega (arith, rest_from p (omega arith), s.above (p - lo) (omega arith) (omega (arith, n)));
      }

-- ---- the place before the first one past the number

module _ (ids : List ℕ) (id k : ℕ) (splits : Rises ids → Splits ids id k) where
  pub none_there : k ≡ 0 → Rises ids → (p : ℕ) → p < length ids → get_or ids p 0 ≡ id → ⊥
  none_there z r p l e = omega (arith, (splits r).above p (omega arith) l)

  pub other_there : 0 < k → (get_or ids (k - 1) 0 ≡ id → ⊥) → Rises ids → (p : ℕ) → p < length ids → get_or ids p 0 ≡ id → ⊥
  other_there h d r p l e =
      ⊎_elim
      (λ (q : k - 1 < p). omega (arith, (splits r).above p (omega arith) l))
      (⊎_elim
      (λ (q : p ≡ k - 1). d (sym (ap (λ (i : ℕ). get_or ids i 0) q) ∙ e))
      (λ (q : p < k - 1). omega (arith, (splits r).below (k - 1) (omega arith), r p (k - 1) q (omega (arith, (splits r).within)))))
      (three p (k - 1))
