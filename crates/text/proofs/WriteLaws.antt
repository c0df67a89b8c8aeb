-- Writing a text in parts: a byte, a digit, an item, and two texts one after the other (`wrote_then`). Assumes nothing.
use Prim.Native.Nat.{ℕ, zero, suc, ◌+◌, ◌-◌, ◌*◌, ◌/◌, ◌%◌, ◌^◌, ◌<◌, ◌≤◌, min}
use mathlib.Core.Path.{◌≡◌, refl, sym, ◌∙◌, ap, ap₂, subst}
use mathlib.Core.List.{List, [], ◌∷◌, ◌++◌, append_assoc, append-nil}
use native.Mathlib.Omega.{arith}
use borrow.Author.Tests.{lt-ltb, leb-true, leb-false}
use lib.Dec.{leb}
use lib.ListN.{length, get_or, drop, set, length-append, drop_of_length-le}
use lib.Seq.{sets, length-sets, set_out, length-take-le}
use Rattle.text.proofs.Tests.{decided}
use denote.Ref.{Bor}
use Rattle.std.specs.Prelude.{Option, Some, None, unwrap_or, option_copied}
use Rattle.std.specs.Slice.Iter.{iter_rest, iter_steps}
use Rattle.std.proofs.Common.{Iter}
use Rattle.text.specs.Items.{place_in}
use Rattle.text.specs.declared.items.Place.{Place}
use Rattle.text.specs.declared.items.Place.TheVariants.{Number, Tag, Word, Kind}
use Rattle.text.specs.Shape.{Item, number, word, kind, byte, item_of, glyph, digits, decimal, hexes, first, rest, shown, left, print}
use Rattle.text.specs.Wrote.{Wrote}
use Rattle.text.proofs.Digits.{longer}
use Rattle.text.proofs.Steps.{drop_next}

sets_out : (o : List ℕ) (i : ℕ) (t : List ℕ) → length o ≤ i → sets o i t ≡ o
sets_out o i [] h = refl
sets_out o i (b ∷ t) h = rw (set_out o i b h) (sets_out o (suc i) t (omega arith))

sets_more : (o : List ℕ) (i : ℕ) (x y : List ℕ) → sets o i (x ++ y) ≡ sets (sets o i x) (i + length x) y
sets_more o i [] y = ap (λ (k : ℕ). sets o k y) (omega arith)
sets_more o i (b ∷ x) y =
    let e : suc i + length x ≡ i + suc (length x) = omega arith in
    sets_more (set o i b) (suc i) x y ∙ ap (λ (k : ℕ). sets (sets (set o i b) (suc i) x) k y) e

-- the first two fields give the others
pub as_Wrote : (o : List ℕ) (at : ℕ) (t o' : List ℕ) (r : ℕ) → o' ≡ sets o at t → r ≡ min (at + length t) (length o) → Wrote o at t o' r
as_Wrote o at t o' r e n =
    let l : length o' ≡ length o = ap length e ∙ length-sets o at t in
    let w : r ≤ length o' = omega arith in
    record { left = e; next = n; same_length = l; within = w; counts = sym (length-take-le r o' w) }

pub wrote_none : (o : List ℕ) (at : ℕ) → at ≤ length o → Wrote o at [] o at
wrote_none o at h = as_Wrote o at [] o at refl (omega arith)

pub Wrote-byte : (o : List ℕ) (at b : ℕ) → at < length o → Wrote o at (b ∷ []) (set o at b) (at + 1)
Wrote-byte o at b h = as_Wrote o at (b ∷ []) (set o at b) (at + 1) refl (omega arith)

pub Wrote-full : (o : List ℕ) (at b : ℕ) → at ≤ length o → length o ≤ at → Wrote o at (b ∷ []) o at
Wrote-full o at b m h = as_Wrote o at (b ∷ []) o at (sym (set_out o at b h)) (omega arith)

module _ (o : List ℕ) (at : ℕ) (x o₁ : List ℕ) (r₁ : ℕ) (w : Wrote o at x o₁ r₁) (y o₂ : List ℕ) (r₂ : ℕ) (v : Wrote o₁ r₁ y o₂ r₂) where
  place : sets o₁ r₁ y ≡ sets o₁ (at + length x) y
  place =
      let e = w.same_length in
      decided (leb (at + length x) (length o))
      (λ t. let h : at + length x ≤ length o = leb-true _ _ t in
      let n : r₁ ≡ at + length x = w.next ∙ omega arith in
      ap (λ (k : ℕ). sets o₁ k y) n)
      (λ t. let h : length o < at + length x = leb-false _ _ t in
      let n : r₁ ≡ length o = w.next ∙ omega arith in
      sets_out o₁ r₁ y (omega arith) ∙ sym (sets_out o₁ (at + length x) y (omega arith)))

  pub wrote_then : Wrote o at (x ++ y) o₂ r₂
  wrote_then =
      let e = w.same_length in
      let l = length-append x y in
      let n₁ = w.next in
      let n₂ = v.next in
      let f : o₂ ≡ sets o at (x ++ y) = v.left ∙ place ∙ ap (λ (k : List ℕ). sets k (at + length x) y) w.left ∙ sym (sets_more o at x y) in
      as_Wrote o at (x ++ y) o₂ r₂ f (omega arith)

-- ---- the digits

pub decimal_small : (v : ℕ) → v < 10 → glyph v ∷ [] ≡ decimal v
unfolding decimal digits
decimal_small v h = rw (lt-ltb v 10 h)

pub decimal_big : (v : ℕ) → 10 ≤ v → v < 2 ^ 64 → decimal (v / 10) ++ (glyph (v % 10) ∷ []) ≡ decimal v
decimal_big v h m =
    let e : v / 10 * 10 + v % 10 ≡ v = omega arith in
    sym (longer (v / 10) (v % 10) (omega arith) (omega arith) (omega arith)) ∙ ap decimal e

pub hexes_none : (n v : ℕ) → n ≡ 0 → [] ≡ hexes n v
unfolding hexes
hexes_none n v e = rw e

pub hexes_more : (n v : ℕ) → (n ≡ 0 → ⊥) → hexes (n - 1) (v / 16) ++ (glyph (v % 16) ∷ []) ≡ hexes n v
unfolding hexes
hexes_more zero v h = absurd (h refl)
hexes_more (suc n) v h = let e : suc n - 1 ≡ n = omega arith in rw e

-- ---- the values: those that are left, one by one, and 0 past the last

none_first : (vs : List ℕ) → length vs ≡ 0 → (0 ≡ first vs) × (vs ≡ rest vs)
none_first [] e = (refl, refl)
none_first (v ∷ vs) e = absurd (omega arith)

pub next_value : (s t : Iter ℕ) (r : Option (Bor ℕ)) → iter_steps s r t
    → (unwrap_or (option_copied r) 0 ≡ first (iter_rest s)) × (iter_rest t ≡ rest (iter_rest s))
next_value s t None h = let e = none_first (iter_rest s) h.0 in (e.0, rw h.1 e.1)
next_value s t (Some x) h = rw h (refl, refl)

-- a place shows the first of them
left-place : (p : Place) (vs : List ℕ) → left (place_in p) vs ≡ rest vs
left-place Number vs = refl
left-place Tag vs = refl
left-place Word vs = refl
left-place Kind vs = refl

shown-first : (x : Item) (us : List ℕ) → shown x (first us ∷ []) ≡ shown x us
shown-first (number l) us = refl
shown-first word us = refl
shown-first kind us = refl
shown-first (byte b) us = refl

-- one item more of a shape, with the values us left of it
module _ (p : List ℕ) (i : ℕ) (h : i < length p) (x : Item) (e : x ≡ item_of (get_or p i 0)) (vs pre t : List ℕ) (sofar : pre ++ print (drop i p) vs ≡ t) where
  pub print-item : (pre ++ shown x vs) ++ print (drop (i + 1) p) (left x vs) ≡ t
  unfolding print
  print-item =
      append_assoc pre (shown x vs) (print (drop (i + 1) p) (left x vs))
      ∙ ap (λ (y : Item). pre ++ (shown y vs ++ print (drop (i + 1) p) (left y vs))) e
      ∙ rw (drop_next p i h) at sofar

pub print-place : (p : List ℕ) (i : ℕ) → i < length p → (x : Place) → place_in x ≡ item_of (get_or p i 0) → (vs pre t : List ℕ) → pre ++ print (drop i p) vs ≡ t
    → (v : ℕ) (us : List ℕ) → v ≡ first vs → us ≡ rest vs → (pre ++ shown (place_in x) (v ∷ [])) ++ print (drop (i + 1) p) us ≡ t
print-place p i h x e vs pre t k v us ev eu =
    ap₂ (λ (y ws : List ℕ). (pre ++ y) ++ print (drop (i + 1) p) ws)
    (ap (λ (n : ℕ). shown (place_in x) (n ∷ [])) ev ∙ shown-first (place_in x) vs) (eu ∙ sym (left-place x vs))
    ∙ print-item p i h (place_in x) e vs pre t k

pub print_end : (p vs : List ℕ) (i : ℕ) → length p ≤ i → (pre t : List ℕ) → pre ++ print (drop i p) vs ≡ t → pre ≡ t
unfolding print
print_end p vs i h pre t e = sym (append-nil pre) ∙ (rw (drop_of_length-le p h) at e)

-- ---- a text by another name, and a last digit

pub wrote_as : (o : List ℕ) (at : ℕ) (t t' o' : List ℕ) (r : ℕ) → t ≡ t' → Wrote o at t o' r → Wrote o at t' o' r
wrote_as o at t t' o' r e w = subst (λ (x : List ℕ). Wrote o at x o' r) e w

pub Wrote-digit : (o : List ℕ) (at v d : ℕ) (o' : List ℕ) (r : ℕ) → v < 10 → d ≡ glyph v → Wrote o at (d ∷ []) o' r → Wrote o at (decimal v) o' r
Wrote-digit o at v d o' r h e w = wrote_as o at (d ∷ []) (decimal v) o' r (ap (λ (x : ℕ). x ∷ []) e ∙ decimal_small v h) w

pub Wrote-last : (o : List ℕ) (at v d : ℕ) (o₁ : List ℕ) (r₁ : ℕ) (o₂ : List ℕ) (r₂ : ℕ) → 10 ≤ v → v < 2 ^ 64 → d ≡ glyph (v % 10)
    → Wrote o at (decimal (v / 10)) o₁ r₁ → Wrote o₁ r₁ (d ∷ []) o₂ r₂ → Wrote o at (decimal v) o₂ r₂
Wrote-last o at v d o₁ r₁ o₂ r₂ h m e w u =
    wrote_as o at (decimal (v / 10) ++ (d ∷ [])) (decimal v) o₂ r₂ (ap (λ (x : ℕ). decimal (v / 10) ++ (x ∷ [])) e ∙ decimal_big v h m)
    (wrote_then o at (decimal (v / 10)) o₁ r₁ w (d ∷ []) o₂ r₂ u)

pub Wrote-hexes : (o : List ℕ) (at n v d : ℕ) (o₁ : List ℕ) (r₁ : ℕ) (o₂ : List ℕ) (r₂ : ℕ) → (n ≡ 0 → ⊥) → d ≡ glyph (v % 16)
    → Wrote o at (hexes (n - 1) (v / 16)) o₁ r₁ → Wrote o₁ r₁ (d ∷ []) o₂ r₂ → Wrote o at (hexes n v) o₂ r₂
Wrote-hexes o at n v d o₁ r₁ o₂ r₂ h e w u =
    wrote_as o at (hexes (n - 1) (v / 16) ++ (d ∷ [])) (hexes n v) o₂ r₂ (ap (λ (x : ℕ). hexes (n - 1) (v / 16) ++ (x ∷ [])) e ∙ hexes_more n v h)
    (wrote_then o at (hexes (n - 1) (v / 16)) o₁ r₁ w (d ∷ []) o₂ r₂ u)
