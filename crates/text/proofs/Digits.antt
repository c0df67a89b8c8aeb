-- Digits are read back: a decimal and a hexadecimal word, in both directions. Assumes nothing.
use Prim.Native.Nat.{ℕ, zero, suc, ◌+◌, ◌-◌, ◌*◌, ◌/◌, ◌%◌, ◌^◌, ◌<◌, ◌≤◌}
use mathlib.Core.Path.{◌≡◌, refl, sym, ◌∙◌, ap, ap₂}
use mathlib.Core.List.{List, [], ◌∷◌, ◌++◌, append_assoc}
use native.Mathlib.Omega.{arith}
use native.Mathlib.Nat.{pow-zero, pow-suc, pow-le-pow_right}
use borrow.Author.Tests.{lt-ltb, le-ltb, ne_eqb, ltb-true, ltb-false, eqb-false}
use lib.Dec.{eqb, ltb}
use Rattle.text.proofs.Tests.{decided}
use Rattle.text.specs.Shape.{glyph, digits, decimal, hexes}
use Rattle.text.specs.Taken.{got, none, nibble, more, number_at, word_at}

pub nibble-glyph : (v : ℕ) → v < 16 → nibble (glyph v) ≡ v
unfolding nibble glyph
nibble-glyph v h =
    decided (ltb v 10)
    (λ e. simp (e, le-ltb (48 + v) 48 (omega arith), lt-ltb (48 + v) 58 (omega (arith, ltb-true v 10 e))) (omega arith))
    (λ e. let w : 10 ≤ v = ltb-false v 10 e in
    simp (e, le-ltb (87 + v) 48 (omega arith), le-ltb (87 + v) 58 (omega arith), le-ltb (87 + v) 97 (omega arith), lt-ltb (87 + v) 103 (omega arith)) (omega arith))

pub glyph-nibble : (b : ℕ) → nibble b < 16 → glyph (nibble b) ≡ b
unfolding nibble glyph
glyph-nibble b h =
    decided (ltb b 48)
    (λ e. absurd (out (simp e at h)))
    (λ e. decided (ltb b 58)
    (λ f. simp (e, f, lt-ltb (b - 48) 10 (omega (arith, ltb-true b 58 f))) (omega (arith, ltb-false b 48 e)))
    (λ f. decided (ltb b 97)
    (λ g. absurd (out (simp (e, f, g) at h)))
    (λ g. decided (ltb b 103)
    (λ k. simp (e, f, g, k, le-ltb (b - 87) 10 (omega (arith, ltb-false b 97 g))) (omega (arith, ltb-false b 97 g)))
    (λ k. absurd (out (simp (e, f, g, k) at h))))))
  where
    out : 16 < 16 → ⊥
    out p = omega arith

-- ---- decimals

-- one digit more of room changes nothing
steady : (n v : ℕ) → v < 10 ^ suc n → digits (suc n) v ≡ digits (suc (suc n)) v
unfolding digits
steady zero v h = simp (lt-ltb v 10 h)
steady (suc n) v h =
    decided (ltb v 10)
    (λ e. simp e)
    (λ e. rw e (ap (λ (x : List ℕ). x ++ (glyph (v % 10) ∷ [])) (steady n (v / 10) (omega (arith, pow-suc 10 (suc n))))))

open20 : (x : ℕ) → 10 ≤ x → digits 20 x ≡ digits 19 (x / 10) ++ (glyph (x % 10) ∷ [])
unfolding digits
open20 x k = rw (le-ltb x 10 k)

pub longer : (v d : ℕ) → 0 < v → d < 10 → v < 10 ^ 19 → decimal (v * 10 + d) ≡ decimal v ++ (glyph d ∷ [])
unfolding decimal
longer v d hv hd h = open20 (v * 10 + d) (omega arith) ∙ ap₂ (λ (x y : ℕ). digits 19 x ++ (glyph y ∷ [])) q r ∙ ap (λ (x : List ℕ). x ++ (glyph d ∷ [])) (steady 18 v h)
  where
    q : (v * 10 + d) / 10 ≡ v
    q = omega arith

    r : (v * 10 + d) % 10 ≡ d
    r = omega arith

more_step : (l acc d : ℕ) (t : List ℕ) → d < 10 → 0 < acc → acc * 10 + d < l → more l (glyph d ∷ t) acc ≡ more l t (acc * 10 + d)
unfolding more
more_step l acc d t h k m =
    let z : acc ≡ 0 → ⊥ = λ e. omega arith in
    simp (nibble-glyph d (omega arith), lt-ltb d 10 h, ne_eqb acc 0 z, lt-ltb (acc * 10 + d) l m)

one_digit : (l v : ℕ) (t : List ℕ) → v < 10 → number_at l (glyph v ∷ t) ≡ more l t v
unfolding number_at
one_digit l v t h = simp (nibble-glyph v (omega arith), lt-ltb v 10 h)

pub number_read : (l n v : ℕ) (t : List ℕ) → v < 10 ^ suc n → v < l → number_at l (digits (suc n) v ++ t) ≡ more l t v
unfolding digits
number_read l zero v t h k = rw (lt-ltb v 10 h) (one_digit l v t h)
number_read l (suc n) v t h k =
    decided (ltb v 10)
    (λ e. rw e (one_digit l v t (ltb-true v 10 e)))
    (λ e. let w : 10 ≤ v = ltb-false v 10 e in
    let q : v / 10 * 10 + v % 10 ≡ v = omega arith in
    rw (e, append_assoc)
    (number_read l n (v / 10) (glyph (v % 10) ∷ t) (omega (arith, pow-suc 10 (suc n))) (omega arith)
    ∙ more_step l (v / 10) (v % 10) t (omega arith) (omega arith) (omega arith)
    ∙ ap (more l t) q))

-- no value is nothing
pub nothing : {v : ℕ} {r : List ℕ} → none ≡ got v r → ⊥
nothing e = let z : ◌≡◌ {A = ℕ} 0 1 = cc in omega arith

same : (l acc v : ℕ) (t r : List ℕ) → acc < l → got acc t ≡ got v r → (decimal acc ++ t ≡ decimal v ++ r) × (v < l)
same l acc v t r k e =
    let p : acc ≡ v = cc in
    let q : t ≡ r = cc in
    (cc, omega arith)

onward : (t r : List ℕ) (acc b v : ℕ) → 0 < acc → acc < 10 ^ 19 → nibble b < 10 → decimal (acc * 10 + nibble b) ++ t ≡ decimal v ++ r
    → decimal acc ++ (b ∷ t) ≡ decimal v ++ r
onward t r acc b v h k d e =
    sym (append_assoc (decimal acc) (b ∷ []) t)
    ∙ ap (λ (x : List ℕ). x ++ t) (sym (longer acc (nibble b) h d k ∙ ap (λ (x : ℕ). decimal acc ++ (x ∷ [])) (glyph-nibble b (omega arith))))
    ∙ e

pub number_kept : (l : ℕ) (t : List ℕ) (acc v : ℕ) (r : List ℕ) → l ≤ 10 ^ 19 → acc < l → more l t acc ≡ got v r
    → (decimal acc ++ t ≡ decimal v ++ r) × (v < l)
unfolding more
number_kept l [] acc v r m k e = same l acc v [] r k e
number_kept l (b ∷ t) acc v r m k e =
    decided (ltb (nibble b) 10)
    (λ d. decided (eqb acc 0)
    (λ z. absurd (nothing (simp (d, z) at e)))
    (λ z. decided (ltb (acc * 10 + nibble b) l)
    (λ s. let i = number_kept l t (acc * 10 + nibble b) v r m (ltb-true _ _ s) (simp (d, z, s) at e) in
    let nz : acc ≡ 0 → ⊥ = eqb-false acc 0 z in
    (onward t r acc b v (omega arith) (omega arith) (ltb-true _ _ d) i.0, i.1))
    (λ s. absurd (nothing (simp (d, z, s) at e)))))
    (λ d. same l acc v (b ∷ t) r k (simp d at e))

single : (b : ℕ) → nibble b < 10 → decimal (nibble b) ≡ b ∷ []
unfolding decimal digits
single b h = simp (lt-ltb (nibble b) 10 h) (ap (λ (x : ℕ). x ∷ []) (glyph-nibble b (omega arith)))

-- what is read as a number below l is that number's decimal
pub number_sound : (l : ℕ) (t : List ℕ) (v : ℕ) (r : List ℕ) → 10 ≤ l → l ≤ 10 ^ 19 → number_at l t ≡ got v r → (t ≡ decimal v ++ r) × (v < l)
unfolding number_at
number_sound l [] v r h m e = absurd (nothing e)
number_sound l (b ∷ t) v r h m e =
    decided (ltb (nibble b) 10)
    (λ d. let db : nibble b < 10 = ltb-true _ _ d in
    let i = number_kept l t (nibble b) v r m (omega arith) (simp d at e) in
    (ap (λ (x : List ℕ). x ++ t) (sym (single b db)) ∙ i.0, i.1))
    (λ d. absurd (nothing (simp d at e)))

-- a text that goes on with no digit
abbrev pub Stops : List ℕ → Type 0
Stops [] = Unit {0}
Stops (b ∷ t) = 10 ≤ nibble b

ends : (l v : ℕ) (t : List ℕ) → Stops t → more l t v ≡ got v t
unfolding more
ends l v [] h = refl
ends l v (b ∷ t) h = simp (le-ltb (nibble b) 10 h)

-- and a number's decimal is read as that number
pub number_complete : (l v : ℕ) (t : List ℕ) → l ≤ 10 ^ 19 → v < l → Stops t → number_at l (decimal v ++ t) ≡ got v t
unfolding decimal
number_complete l v t m h s = number_read l 19 v t (omega (arith, pow-suc 10 19)) h ∙ ends l v t s

-- ---- words

word_step : (n acc d : ℕ) (t : List ℕ) → d < 16 → word_at (suc n) acc (glyph d ∷ t) ≡ word_at n (acc * 16 + d) t
unfolding word_at
word_step n acc d t h = simp (nibble-glyph d h, lt-ltb d 16 h)

word_read : (m n v : ℕ) (t : List ℕ) → v < 16 ^ m → word_at (m + n) 0 (hexes m v ++ t) ≡ word_at n v t
unfolding hexes
word_read zero n v t h = ap₂ (λ (x y : ℕ). word_at x y t) (omega arith) (omega (arith, pow-zero 16))
word_read (suc m) n v t h =
    let q : v / 16 * 16 + v % 16 ≡ v = omega arith in
    rw append_assoc
    (ap (λ (x : ℕ). word_at x 0 (hexes m (v / 16) ++ (glyph (v % 16) ∷ t))) (omega arith)
    ∙ word_read m (suc n) (v / 16) (glyph (v % 16) ∷ t) (omega (arith, pow-suc 16 m))
    ∙ word_step n (v / 16) (v % 16) t (omega arith)
    ∙ ap (λ (x : ℕ). word_at n x t) q)

pub word_complete : (v : ℕ) (t : List ℕ) → v < 2 ^ 64 → word_at 16 0 (hexes 16 v ++ t) ≡ got v t
unfolding word_at
word_complete v t h = word_read 16 0 v t h

hex_longer : (m acc b : ℕ) → nibble b < 16 → hexes (suc m) (acc * 16 + nibble b) ≡ hexes m acc ++ (b ∷ [])
unfolding hexes
hex_longer m acc b h =
    let q : (acc * 16 + nibble b) / 16 ≡ acc = omega arith in
    let r : (acc * 16 + nibble b) % 16 ≡ nibble b = omega arith in
    ap₂ (λ (x y : ℕ). hexes m x ++ (glyph y ∷ [])) q r ∙ ap (λ (y : ℕ). hexes m acc ++ (y ∷ [])) (glyph-nibble b h)

word_kept : (n m acc : ℕ) (t : List ℕ) (v : ℕ) (r : List ℕ) → acc < 16 ^ m → word_at n acc t ≡ got v r → (hexes m acc ++ t ≡ hexes (m + n) v ++ r) × (v < 16 ^ (m + n))
unfolding word_at
word_kept zero m acc t v r h e =
    let p : acc ≡ v = cc in
    let q : t ≡ r = cc in
    let z : m + 0 ≡ m = omega arith in
    (rw z (cc), rw (z, ← p) h)
word_kept (suc n) m acc [] v r h e = absurd (nothing e)
word_kept (suc n) m acc (b ∷ t) v r h e =
    decided (ltb (nibble b) 16)
    (λ d. let db : nibble b < 16 = ltb-true _ _ d in
    let z : m + suc n ≡ suc m + n = omega arith in
    let i = word_kept n (suc m) (acc * 16 + nibble b) t v r (omega (arith, pow-suc 16 m)) (simp d at e) in
    (rw z (sym (append_assoc (hexes m acc) (b ∷ []) t) ∙ ap (λ (x : List ℕ). x ++ t) (sym (hex_longer m acc b db)) ∙ i.0), rw z i.1))
    (λ d. absurd (nothing (simp d at e)))

pub word_sound : (t : List ℕ) (v : ℕ) (r : List ℕ) → word_at 16 0 t ≡ got v r → (t ≡ hexes 16 v ++ r) × (v < 2 ^ 64)
unfolding hexes
word_sound t v r e = word_kept 16 0 0 t v r (omega (arith, pow-zero 16)) e

pub word_zero : (k v : ℕ) (t : List ℕ) → k ≡ 0 → word_at k v t ≡ got v t
unfolding word_at
word_zero k v t e = rw e

-- what a word has room for with k digits left
pub word_room : (k : ℕ) → 0 < k → k ≤ 16 → (16 ^ (16 - k) * 16 ≡ 16 ^ (16 - (k - 1))) × (16 ^ (16 - (k - 1)) ≤ 2 ^ 64)
word_room k h m =
    let e : 16 - (k - 1) ≡ suc (16 - k) = omega arith in
    let p : 0 < 16 = omega arith in
    let q : 16 - (k - 1) ≤ 16 = omega arith in
    (sym (ap (λ (x : ℕ). 16 ^ x) e ∙ pow-suc 16 (16 - k)), pow-le-pow_right p q)
