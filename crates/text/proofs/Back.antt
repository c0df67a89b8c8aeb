-- A shape is read back: what `fitted` hits is what `print` prints, in both directions (`complete`, `sound`), and shapes that part at a byte before
-- any place never share a text (`other`). Assumes nothing.
use Prim.Native.Nat.{ℕ, zero, suc, ◌+◌, ◌*◌, ◌^◌, ◌<◌, ◌≤◌}
use mathlib.Core.Path.{◌≡◌, refl, sym, ◌∙◌, ap}
use mathlib.Core.Bool.{Bool, true, false, cond, ◌&&◌, false≢true}
use mathlib.Core.List.{List, [], ◌∷◌, ◌++◌}
use native.Mathlib.Omega.{arith}
use borrow.Author.Tests.{eq-eqb, eqb-true, eqb-false, leb-true}
use lib.Dec.{eqb, ltb, leb}
use Rattle.model.proofs.Members.{and_both}
use Rattle.text.proofs.Tests.{decided}
use Rattle.text.specs.Shape.{Item, number, word, kind, byte, item_of, shown, left, print, letter, decimal, hexes, limited, limits, Below, Good}
use Rattle.text.specs.Taken.{Taken, got, past, none, nibble, more, number_at, word_at, kind_at, byte_at, taken}
use Rattle.text.specs.Fit.{fitted, onward, pushed, pushes}
use Rattle.text.specs.declared.shapes.Five.{Five}
use Rattle.std.specs.Prelude.{Option, Some, None}
use Rattle.text.proofs.Digits.{nothing, Stops, number_sound, number_complete, word_sound, word_complete}

-- ---- nothing but a byte is passed over, and a byte has no value

pub unlike : {v : ℕ} {t r : List ℕ} → got v t ≡ past r → ⊥
unlike e = let z : ◌≡◌ {A = ℕ} 0 1 = cc in omega arith

pub lacking : {r : List ℕ} → none ≡ past r → ⊥
lacking e = let z : ◌≡◌ {A = ℕ} 0 1 = cc in omega arith

pub missed : {f : Five} → None ≡ Some f → ⊥
missed e = let z : ◌≡◌ {A = ℕ} 0 1 = cc in omega arith

more_valued : (l : ℕ) (t : List ℕ) (acc : ℕ) (r : List ℕ) → more l t acc ≡ past r → ⊥
unfolding more
more_valued l [] acc r e = unlike e
more_valued l (b ∷ t) acc r e =
    decided (ltb (nibble b) 10)
    (λ d. decided (eqb acc 0)
    (λ z. lacking (simp (d, z) at e))
    (λ z. decided (ltb (acc * 10 + nibble b) l)
    (λ s. more_valued l t (acc * 10 + nibble b) r (simp (d, z, s) at e))
    (λ s. lacking (simp (d, z, s) at e))))
    (λ d. unlike (simp d at e))

number_valued : (l : ℕ) (t r : List ℕ) → number_at l t ≡ past r → ⊥
unfolding number_at
number_valued l [] r e = lacking e
number_valued l (b ∷ t) r e =
    decided (ltb (nibble b) 10)
    (λ d. more_valued l t (nibble b) r (simp d at e))
    (λ d. lacking (simp d at e))

word_valued : (n acc : ℕ) (t r : List ℕ) → word_at n acc t ≡ past r → ⊥
unfolding word_at
word_valued zero acc t r e = unlike e
word_valued (suc n) acc [] r e = lacking e
word_valued (suc n) acc (b ∷ t) r e =
    decided (ltb (nibble b) 16)
    (λ d. word_valued n (acc * 16 + nibble b) t r (simp d at e))
    (λ d. lacking (simp d at e))

kind_valued : (t r : List ℕ) → kind_at t ≡ past r → ⊥
unfolding kind_at
kind_valued [] r e = lacking e
kind_valued (b ∷ t) r e =
    decided (eqb b 120) (λ x. unlike (simp x at e))
    (λ x. decided (eqb b 121) (λ y. unlike (simp (x, y) at e))
    (λ y. decided (eqb b 122) (λ z. unlike (simp (x, y, z) at e))
    (λ z. decided (eqb b 112) (λ p. unlike (simp (x, y, z, p) at e)) (λ p. lacking (simp (x, y, z, p) at e)))))

byte_bare : (c : ℕ) (t : List ℕ) (v : ℕ) (r : List ℕ) → byte_at c t ≡ got v r → ⊥
unfolding byte_at
byte_bare c [] v r e = nothing e
byte_bare c (b ∷ t) v r e = decided (eqb b c) (λ x. unlike (sym (simp x at e))) (λ x. nothing (simp x at e))

-- ---- kinds and bytes

pub kind_complete : (v : ℕ) (t : List ℕ) → v < 4 → kind_at (letter v ∷ t) ≡ got v t
unfolding kind_at letter
kind_complete v t h =
    decided (eqb v 0) (λ x. simp x (ap (λ (k : ℕ). got k t) (sym (eqb-true _ _ x))))
    (λ x. decided (eqb v 1) (λ y. simp (x, y) (ap (λ (k : ℕ). got k t) (sym (eqb-true _ _ y))))
    (λ y. decided (eqb v 2) (λ z. simp (x, y, z) (ap (λ (k : ℕ). got k t) (sym (eqb-true _ _ z))))
    (λ z. let n0 : v ≡ 0 → ⊥ = eqb-false _ _ x in
    let n1 : v ≡ 1 → ⊥ = eqb-false _ _ y in
    let n2 : v ≡ 2 → ⊥ = eqb-false _ _ z in
    let e : 3 ≡ v = omega arith in
    simp (x, y, z) (ap (λ (k : ℕ). got k t) e))))

told : (b w n v : ℕ) (t r : List ℕ) → b ≡ n → letter w ≡ n → w < 4 → got w t ≡ got v r → (b ∷ t ≡ letter v ∷ r) × (v < 4)
told b w n v t r h k m e =
    let p : w ≡ v = cc in
    let q : t ≡ r = cc in
    (cc, omega arith)

pub kind_sound : (t : List ℕ) (v : ℕ) (r : List ℕ) → kind_at t ≡ got v r → (t ≡ letter v ∷ r) × (v < 4)
unfolding kind_at letter
kind_sound [] v r e = absurd (nothing e)
kind_sound (b ∷ t) v r e =
    decided (eqb b 120) (λ x. told b 0 120 v t r (eqb-true _ _ x) refl (omega arith) (simp x at e))
    (λ x. decided (eqb b 121) (λ y. told b 1 121 v t r (eqb-true _ _ y) refl (omega arith) (simp (x, y) at e))
    (λ y. decided (eqb b 122) (λ z. told b 2 122 v t r (eqb-true _ _ z) refl (omega arith) (simp (x, y, z) at e))
    (λ z. decided (eqb b 112) (λ p. told b 3 112 v t r (eqb-true _ _ p) refl (omega arith) (simp (x, y, z, p) at e))
    (λ p. absurd (nothing (simp (x, y, z, p) at e))))))

pub byte_sound : (c : ℕ) (t r : List ℕ) → byte_at c t ≡ past r → t ≡ c ∷ r
unfolding byte_at
byte_sound c [] r e = absurd (lacking e)
byte_sound c (b ∷ t) r e =
    decided (eqb b c)
    (λ x. let p : b ≡ c = eqb-true _ _ x in let q : past t ≡ past r = simp x at e in cc)
    (λ x. absurd (lacking (simp x at e)))

pub byte_complete : (c : ℕ) (t : List ℕ) → byte_at c (c ∷ t) ≡ past t
unfolding byte_at
byte_complete c t = simp (eq-eqb c c refl)

-- ---- whole shapes

abbrev pub Limits : Item → Type 0
Limits (number l) = (10 ≤ l) × (l ≤ 10 ^ 19)
Limits word = Unit {0}
Limits kind = Unit {0}
Limits (byte b) = Unit {0}

pub item_Limits : (c : ℕ) → Limits (item_of c)
unfolding item_of
item_Limits c =
    decided (eqb c 35) (λ x. rw x (omega arith))
    (λ x. decided (eqb c 36) (λ y. rw (x, y) (omega arith))
    (λ y. decided (eqb c 37) (λ z. rw (x, y, z) tt)
    (λ z. decided (eqb c 63) (λ p. rw (x, y, z, p) tt) (λ p. rw (x, y, z, p) tt))))

-- a number's place ends the shape, or a byte that is no digit follows it
abbrev stops_at : Item → Bool
stops_at (number l) = false
stops_at word = false
stops_at kind = false
stops_at (byte b) = leb 10 (nibble b)

abbrev stops : List ℕ → Bool
stops [] = true
stops (c ∷ p) = stops_at (item_of c)

abbrev after : Item → List ℕ → Bool
after (number l) p = stops p
after word p = true
after kind p = true
after (byte b) p = true

unfoldable pub sane : List ℕ → Bool
sane [] = true
sane (c ∷ p) = after (item_of c) p && sane p

stopped_at : (x : Item) (vs t : List ℕ) → stops_at x ≡ true → Stops (shown x vs ++ t)
stopped_at (number l) vs t h = absurd (false≢true h)
stopped_at word vs t h = absurd (false≢true h)
stopped_at kind vs t h = absurd (false≢true h)
stopped_at (byte b) vs t h = leb-true 10 (nibble b) h

stopped : (p vs : List ℕ) → stops p ≡ true → Stops (print p vs)
unfolding print
stopped [] vs h = tt
stopped (c ∷ p) vs h = stopped_at (item_of c) vs (print p (left (item_of c) vs)) h

-- what is left of a shape, after what an item took
abbrev on_from : (p : List ℕ) → Five → Taken → Option Five
on_from p f = onward (λ v u. fitted p (pushed f v) u) (λ u. fitted p f u)

-- one item, with what holds of the rest of the shape
module _ (p : List ℕ) where
  item_complete : ((f : Five) (vs : List ℕ) → Good p vs → fitted p f (print p vs) ≡ Some (pushes f vs))
      → (x : Item) → Limits x → after x p ≡ true → (f : Five) (vs : List ℕ) → Below vs (limited x (limits p))
      → on_from p f (taken x (shown x vs ++ print p (left x vs))) ≡ Some (pushes f vs)
  item_complete ih (number l) m a f [] g = absurd g
  item_complete ih (number l) m a f (v ∷ vs) g = rw (number_complete l v (print p vs) m.1 g.0 (stopped p vs a)) (ih (pushed f v) vs g.1)
  item_complete ih word m a f [] g = absurd g
  item_complete ih word m a f (v ∷ vs) g = rw (word_complete v (print p vs) g.0) (ih (pushed f v) vs g.1)
  item_complete ih kind m a f [] g = absurd g
  item_complete ih kind m a f (v ∷ vs) g = rw (kind_complete v (print p vs) g.0) (ih (pushed f v) vs g.1)
  item_complete ih (byte b) m a f vs g = rw (byte_complete b (print p vs)) (ih f vs g)

  Read : (x : Item) (f : Five) (t : List ℕ) (g : Five) → Type 0
  Read x f t g = (vs : List ℕ) × Below vs (limited x (limits p)) × (t ≡ shown x vs ++ print p (left x vs)) × (g ≡ pushes f vs)

  module _
      (ih : (f : Five) (t : List ℕ) (g : Five) → fitted p f t ≡ Some g → (vs : List ℕ) × Good p vs × (t ≡ print p vs) × (g ≡ pushes f vs))
      (f : Five) (t : List ℕ) (g : Five) where
    by_number : (l : ℕ) → Limits (number l) → (y : Taken) → number_at l t ≡ y → on_from p f y ≡ Some g → Read (number l) f t g
    unfolding Read
    by_number l m (got v r) e h =
        let q = number_sound l t v r m.0 m.1 e in
        let i = ih (pushed f v) r g h in
        (v ∷ i.0, (q.1, i.1), q.0 ∙ ap (λ (u : List ℕ). decimal v ++ u) i.2, i.3)
    by_number l m (past r) e h = absurd (number_valued l t r e)
    by_number l m none e h = absurd (missed h)

    by_word : (y : Taken) → word_at 16 0 t ≡ y → on_from p f y ≡ Some g → Read word f t g
    unfolding Read
    by_word (got v r) e h =
        let q = word_sound t v r e in
        let i = ih (pushed f v) r g h in
        (v ∷ i.0, (q.1, i.1), q.0 ∙ ap (λ (u : List ℕ). hexes 16 v ++ u) i.2, i.3)
    by_word (past r) e h = absurd (word_valued 16 0 t r e)
    by_word none e h = absurd (missed h)

    by_kind : (y : Taken) → kind_at t ≡ y → on_from p f y ≡ Some g → Read kind f t g
    unfolding Read
    by_kind (got v r) e h =
        let q = kind_sound t v r e in
        let i = ih (pushed f v) r g h in
        (v ∷ i.0, (q.1, i.1), q.0 ∙ ap (λ (u : List ℕ). letter v ∷ u) i.2, i.3)
    by_kind (past r) e h = absurd (kind_valued t r e)
    by_kind none e h = absurd (missed h)

    by_byte : (b : ℕ) (y : Taken) → byte_at b t ≡ y → on_from p f y ≡ Some g → Read (byte b) f t g
    unfolding Read
    by_byte b (got v r) e h = absurd (byte_bare b t v r e)
    by_byte b (past r) e h =
        let i = ih f r g h in
        (i.0, i.1, byte_sound b t r e ∙ ap (λ (u : List ℕ). b ∷ u) i.2, i.3)
    by_byte b none e h = absurd (missed h)

    item_sound : (x : Item) → Limits x → on_from p f (taken x t) ≡ Some g → Read x f t g
    item_sound (number l) m h = by_number l m (number_at l t) refl h
    item_sound word m h = by_word (word_at 16 0 t) refl h
    item_sound kind m h = by_kind (kind_at t) refl h
    item_sound (byte b) m h = by_byte b (byte_at b t) refl h

pub none_left : (vs : List ℕ) → Below vs [] → vs ≡ []
none_left [] h = refl
none_left (v ∷ vs) h = absurd h

-- what is printed with good values is read as those values
pub complete : (p : List ℕ) → sane p ≡ true → (f : Five) (vs : List ℕ) → Good p vs → fitted p f (print p vs) ≡ Some (pushes f vs)
unfolding fitted print limits sane
complete [] s f vs g = ap (λ (us : List ℕ). Some (pushes f us)) (sym (none_left vs g))
complete (c ∷ p) s f vs g =
    let b = and_both (after (item_of c) p) (sane p) s in
    item_complete p (complete p b.1) (item_of c) (item_Limits c) b.0 f vs g

-- and what is read was printed
pub sound : (p : List ℕ) (f : Five) (t : List ℕ) (g : Five) → fitted p f t ≡ Some g → (vs : List ℕ) × Good p vs × (t ≡ print p vs) × (g ≡ pushes f vs)
unfolding fitted print limits Read
sound [] f [] g h = ([], tt, refl, (cc))
sound [] f (b ∷ t) g h = absurd (missed h)
sound (c ∷ p) f t g h = item_sound p (sound p) f t g (item_of c) (item_Limits c) h

-- two shapes that part at a byte before any place
abbrev parted : Item → Item → Bool → Bool
parted (byte a) (byte b) r = cond (eqb b a) r true
parted (byte a) (number l) r = false
parted (byte a) word r = false
parted (byte a) kind r = false
parted (number l) y r = false
parted word y r = false
parted kind y r = false

unfoldable pub apart : List ℕ → List ℕ → Bool
apart [] q = false
apart (c ∷ p) [] = false
apart (c ∷ p) (d ∷ q) = parted (item_of c) (item_of d) (apart p q)

at_byte : (a b : ℕ) (t : List ℕ) (F : ℕ → List ℕ → Option Five) (G : List ℕ → Option Five) (r : Bool) → cond (eqb b a) r true ≡ true → (r ≡ true → G t ≡ None)
    → onward F G (byte_at a (b ∷ t)) ≡ None
unfolding byte_at
at_byte a b t F G r h k = decided (eqb b a) (λ e. rw e (k (rw e at h))) (λ e. rw e)

parts : (x y : Item) (F : ℕ → List ℕ → Option Five) (G : List ℕ → Option Five) (q vs : List ℕ) (r : Bool) → parted x y r ≡ true
    → (r ≡ true → (us : List ℕ) → G (print q us) ≡ None) → onward F G (taken x (shown y vs ++ print q (left y vs))) ≡ None
parts (byte a) (byte b) F G q vs r h k = at_byte a b (print q vs) F G r h (λ t. k t vs)
parts (byte a) (number l) F G q vs r h k = absurd (false≢true h)
parts (byte a) word F G q vs r h k = absurd (false≢true h)
parts (byte a) kind F G q vs r h k = absurd (false≢true h)
parts (number l) y F G q vs r h k = absurd (false≢true h)
parts word y F G q vs r h k = absurd (false≢true h)
parts kind y F G q vs r h k = absurd (false≢true h)

pub other : (p q : List ℕ) → apart p q ≡ true → (f : Five) (vs : List ℕ) → fitted p f (print q vs) ≡ None
unfolding fitted print apart
other [] q h f vs = absurd (false≢true h)
other (c ∷ p) [] h f vs = absurd (false≢true h)
other (c ∷ p) (d ∷ q) h f vs = parts (item_of c) (item_of d) _ _ q vs (apart p q) h (λ t us. other p q t f us)
