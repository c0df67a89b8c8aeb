-- What a reader meets at a place of a text, in the terms of the code: the place, the byte there, the place after it. Assumes nothing.
use Prim.Native.Nat.{ℕ, zero, suc, ◌+◌, ◌-◌, ◌*◌, ◌<◌, ◌≤◌}
use mathlib.Core.Path.{◌≡◌, refl, sym, subst}
use mathlib.Core.List.{List, ◌∷◌}
use native.Mathlib.Omega.{arith}
use native.Mathlib.Numerals.{add-one}
use borrow.Author.Tests.{lt-ltb, le-ltb, eq-eqb, ne_eqb}
use lib.ListN.{length, get_or, drop, drop_of_length-le}
use lib.Seq.{drop-cons}
use Rattle.text.specs.Shape.{number, word, kind, byte, item_of}
use Rattle.text.specs.Taken.{Taken, got, past, none, nibble, more, number_at, word_at, kind_at, byte_at}
use Rattle.std.specs.Prelude.{Some, None}
use Rattle.text.specs.Fit.{Gets, Passes}

pub Gets-some : (s : List ℕ) (v n : ℕ) (x : Taken) → n ≤ length s → x ≡ got v (drop n s) → Gets s (Some (v, n)) x
Gets-some s v n x h e = subst (Gets s (Some (v, n))) (sym e) (refl, h, refl)

pub Gets-none : (s : List ℕ) (x : Taken) → x ≡ none → Gets s None x
Gets-none s x e = subst (Gets s None) (sym e) tt

pub Passes-some : (s : List ℕ) (n : ℕ) (x : Taken) → n ≤ length s → x ≡ past (drop n s) → Passes s (Some n) x
Passes-some s n x h e = subst (Passes s (Some n)) (sym e) (h, refl)

pub Passes-none : (s : List ℕ) (x : Taken) → x ≡ none → Passes s None x
Passes-none s x e = subst (Passes s None) (sym e) tt

-- a list from a place on: what stands there, and the list from the next place on
pub drop_next : (s : List ℕ) (i : ℕ) → i < length s → drop i s ≡ get_or s i 0 ∷ drop (i + 1) s
drop_next s i h = rw add-one (drop-cons s i 0 h)

-- ---- the items by their byte

pub item_number : (c : ℕ) → c ≡ 35 → item_of c ≡ number 10000000000
unfolding item_of
item_number c h = rw (eq-eqb c 35 h)

module _ (c : ℕ) (h : c ≡ 35 → ⊥) where
  pub item_tag : c ≡ 36 → item_of c ≡ number 4294967296
  unfolding item_of
  item_tag e = rw (ne_eqb c 35 h, eq-eqb c 36 e)

  module _ (k : c ≡ 36 → ⊥) where
    pub item_word : c ≡ 37 → item_of c ≡ word
    unfolding item_of
    item_word e = rw (ne_eqb c 35 h, ne_eqb c 36 k, eq-eqb c 37 e)

    module _ (m : c ≡ 37 → ⊥) where
      pub item_kind : c ≡ 63 → item_of c ≡ kind
      unfolding item_of
      item_kind e = rw (ne_eqb c 35 h, ne_eqb c 36 k, ne_eqb c 37 m, eq-eqb c 63 e)

      pub item_byte : (c ≡ 63 → ⊥) → item_of c ≡ byte c
      unfolding item_of
      item_byte e = rw (ne_eqb c 35 h, ne_eqb c 36 k, ne_eqb c 37 m, ne_eqb c 63 e)

module _ (s : List ℕ) (i : ℕ) where
  -- ---- past the end

  pub end_number : (l : ℕ) → length s ≤ i → number_at l (drop i s) ≡ none
  unfolding number_at
  end_number l h = rw (drop_of_length-le s h)

  pub end_kind : length s ≤ i → kind_at (drop i s) ≡ none
  unfolding kind_at
  end_kind h = rw (drop_of_length-le s h)

  pub end_byte : (c : ℕ) → length s ≤ i → byte_at c (drop i s) ≡ none
  unfolding byte_at
  end_byte c h = rw (drop_of_length-le s h)

  pub end_more : (l v : ℕ) → length s ≤ i → more l (drop i s) v ≡ got v (drop i s)
  unfolding more
  end_more l v h = rw (drop_of_length-le s h)

  pub end_word : (k v : ℕ) → 0 < k → length s ≤ i → word_at k v (drop i s) ≡ none
  unfolding word_at
  end_word zero v z h = let y : ◌≡◌ {A = ℕ} 0 1 = omega arith in absurd (omega arith)
  end_word (suc k) v z h = rw (drop_of_length-le s h)

  -- ---- at a byte

  module _ (h : i < length s) where
    pub first_none : (l d : ℕ) → d ≡ nibble (get_or s i 0) → 10 ≤ d → number_at l (drop i s) ≡ none
    unfolding number_at
    first_none l d e k = rw (drop_next s i h, ← e, le-ltb d 10 k)

    pub first_digit : (l d : ℕ) → d ≡ nibble (get_or s i 0) → d < 10 → number_at l (drop i s) ≡ more l (drop (i + 1) s) d
    unfolding number_at
    first_digit l d e k = rw (drop_next s i h, ← e, lt-ltb d 10 k)

    pub more_stop : (l v d : ℕ) → d ≡ nibble (get_or s i 0) → 10 ≤ d → more l (drop i s) v ≡ got v (drop i s)
    unfolding more
    more_stop l v d e k = rw (drop_next s i h, ← e, le-ltb d 10 k)

    pub more_zero : (l v d : ℕ) → d ≡ nibble (get_or s i 0) → d < 10 → v ≡ 0 → more l (drop i s) v ≡ none
    unfolding more
    more_zero l v d e k z = rw (drop_next s i h, ← e, lt-ltb d 10 k, eq-eqb v 0 z)

    pub more_over : (l v d : ℕ) → d ≡ nibble (get_or s i 0) → d < 10 → (v ≡ 0 → ⊥) → l ≤ v * 10 + d → more l (drop i s) v ≡ none
    unfolding more
    more_over l v d e k z o = rw (drop_next s i h, ← e, lt-ltb d 10 k, ne_eqb v 0 z, le-ltb (v * 10 + d) l o)

    pub more_next : (l v d : ℕ) → d ≡ nibble (get_or s i 0) → d < 10 → (v ≡ 0 → ⊥) → v * 10 + d < l → more l (drop i s) v ≡ more l (drop (i + 1) s) (v * 10 + d)
    unfolding more
    more_next l v d e k z o = rw (drop_next s i h, ← e, lt-ltb d 10 k, ne_eqb v 0 z, lt-ltb (v * 10 + d) l o)

    pub word_none : (k v d : ℕ) → 0 < k → d ≡ nibble (get_or s i 0) → 16 ≤ d → word_at k v (drop i s) ≡ none
    unfolding word_at
    word_none zero v d z e o = absurd (omega arith)
    word_none (suc k) v d z e o = rw (drop_next s i h, ← e, le-ltb d 16 o)

    pub word_next : (k v d : ℕ) → 0 < k → d ≡ nibble (get_or s i 0) → d < 16 → word_at k v (drop i s) ≡ word_at (k - 1) (v * 16 + d) (drop (i + 1) s)
    unfolding word_at
    word_next zero v d z e o = absurd (omega arith)
    word_next (suc k) v d z e o =
        let p : suc k - 1 ≡ k = omega arith in
        rw (drop_next s i h, ← e, lt-ltb d 16 o, p)

    pub byte_same : (c : ℕ) → get_or s i 0 ≡ c → byte_at c (drop i s) ≡ past (drop (i + 1) s)
    unfolding byte_at
    byte_same c e = rw (drop_next s i h, eq-eqb (get_or s i 0) c e)

    pub byte_other : (c : ℕ) → (get_or s i 0 ≡ c → ⊥) → byte_at c (drop i s) ≡ none
    unfolding byte_at
    byte_other c e = rw (drop_next s i h, ne_eqb (get_or s i 0) c e)

    pub kind_x_lem : (b : ℕ) → b ≡ get_or s i 0 → b ≡ 120 → kind_at (drop i s) ≡ got 0 (drop (i + 1) s)
    unfolding kind_at
    kind_x_lem b e x = rw (drop_next s i h, ← e, eq-eqb b 120 x)

    pub kind_y_lem : (b : ℕ) → b ≡ get_or s i 0 → (b ≡ 120 → ⊥) → b ≡ 121 → kind_at (drop i s) ≡ got 1 (drop (i + 1) s)
    unfolding kind_at
    kind_y_lem b e x y = rw (drop_next s i h, ← e, ne_eqb b 120 x, eq-eqb b 121 y)

    pub kind_z_lem : (b : ℕ) → b ≡ get_or s i 0 → (b ≡ 120 → ⊥) → (b ≡ 121 → ⊥) → b ≡ 122 → kind_at (drop i s) ≡ got 2 (drop (i + 1) s)
    unfolding kind_at
    kind_z_lem b e x y z = rw (drop_next s i h, ← e, ne_eqb b 120 x, ne_eqb b 121 y, eq-eqb b 122 z)

    pub kind_p_lem : (b : ℕ) → b ≡ get_or s i 0 → (b ≡ 120 → ⊥) → (b ≡ 121 → ⊥) → (b ≡ 122 → ⊥) → b ≡ 112 → kind_at (drop i s) ≡ got 3 (drop (i + 1) s)
    unfolding kind_at
    kind_p_lem b e x y z p = rw (drop_next s i h, ← e, ne_eqb b 120 x, ne_eqb b 121 y, ne_eqb b 122 z, eq-eqb b 112 p)

    pub kind_none : (b : ℕ) → b ≡ get_or s i 0 → (b ≡ 120 → ⊥) → (b ≡ 121 → ⊥) → (b ≡ 122 → ⊥) → (b ≡ 112 → ⊥) → kind_at (drop i s) ≡ none
    unfolding kind_at
    kind_none b e x y z p = rw (drop_next s i h, ← e, ne_eqb b 120 x, ne_eqb b 121 y, ne_eqb b 122 z, ne_eqb b 112 p)
