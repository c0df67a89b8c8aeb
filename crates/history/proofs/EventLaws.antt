-- Laws of an event's words, but for its lists: what the word of a body tells, what a read says, and whether an event is live. Assumes nothing.
use mathlib.Core.Path.{◌≡◌, refl, sym, ap, ◌∙◌}
use mathlib.Core.Logic.{◌⊎◌, inl, inr, ⊎_elim}
use mathlib.Core.Bool.{Bool, true, false, cond, not, ◌||◌}
use mathlib.Core.List.{List}
use Prim.Native.Nat.{ℕ, ◌+◌, ◌-◌, ◌*◌, ◌/◌, ◌%◌, ◌≤◌, ◌<◌}
use native.Mathlib.Omega.{arith}
use lib.ListN.{length, get_or, take, drop}
use lib.Dec.{eqb, leb}
use lib.IntN.{ℤ, pos, negsuc}
use mir.Val.{of_z}
use mir.Syntax.{w8}
use borrow.Author.Tests.{leb-false, lt-leb}
use Rattle.model.specs.Events.{Body, rotation, blocker, Event, Form, State, words, event_at, live_at, is_rotation}
use Rattle.model.specs.Search.{sign_at}
use Rattle.model.specs.Calls.{tag_at, reading, not_readable}
use Rattle.model.specs.Demands.{IsSign, Signed}
use Rattle.model.proofs.Members.{clash}
use Rattle.pauli.specs.Sets.{member}
use Rattle.pauli.proofs.Words.{rest_length}
use Rattle.lists.specs.Lists.{is_live}
use Rattle.lists.proofs.ScalarLaws.{live_part, in_words}
use Rattle.history.specs.Words.{tag_place, alive_place, count_place, code, body_word, Alive, Holds, Sane}
use Rattle.history.specs.Readings.{rotation_of}

-- ---- the word of a body

pub word_plus : (t : ℕ) (g : ℤ) → IsSign g → of_z w8 g ≡ 1 → t + 1 ≡ t + code g
unfolding code
word_plus t g (inl s) e = ap (λ (a : ℤ). t + code a) (sym s)
word_plus t g (inr s) e = let f : of_z w8 (negsuc 0) ≡ 1 = ap (of_z w8) (sym s) ∙ e in absurd (omega arith)

pub word_minus : (t : ℕ) (g : ℤ) → IsSign g → (of_z w8 g ≡ 1 → ⊥) → t + 3 ≡ t + code g
unfolding code
word_minus t g (inl s) d = absurd (d (ap (of_z w8) s))
word_minus t g (inr s) d = ap (λ (a : ℤ). t + code a) (sym s)

-- the word w tells the sign of a rotation
abbrev pub SignIn : (w : ℕ) → Body → Type 0
SignIn w b = ((w % 4 ≡ 1) × (sign_at b ≡ pos 1)) ⊎ ((w % 4 ≡ 3) × (sign_at b ≡ negsuc 0))

-- w is the word of a rotation, and tells its tag and its sign
pub record Tells (w : ℕ) (b : Body) : Type 0 where
  pub tag : w / 4 ≡ tag_at b
  pub some : 1 ≤ w
  pub sgn : SignIn w b

pub rotation_Tells : (w : ℕ) (b : Body) → w ≡ body_word b → Signed b → is_rotation b ≡ true → Tells w b
unfolding body_word code is_rotation tag_at sign_at
rotation_Tells w (rotation tag g label) e (inl s) r =
    let f : w ≡ 4 * tag + 1 = e ∙ ap (λ (a : ℤ). 4 * tag + code a) s in
    record { tag = omega arith; some = omega arith; sgn = inl (omega arith, s) }
rotation_Tells w (rotation tag g label) e (inr s) r =
    let f : w ≡ 4 * tag + 3 = e ∙ ap (λ (a : ℤ). 4 * tag + code a) s in
    record { tag = omega arith; some = omega arith; sgn = inr (omega arith, s) }
rotation_Tells w blocker e s r = clash false r refl

blocker_word : (w : ℕ) (b : Body) → w ≡ body_word b → is_rotation b ≡ false → w ≡ 0
unfolding body_word is_rotation
blocker_word w (rotation tag g label) e r = clash true refl r
blocker_word w blocker e r = e

-- ---- what can be read

pub readable : (es : List Event) (id : ℕ) → not_readable es id ≡ false → (id < length es) × (is_rotation (event_at es id).body ≡ true)
unfolding not_readable
readable es id e = go (leb (length es) id) refl (is_rotation (event_at es id).body) refl e
  where
    go : (a : Bool) → leb (length es) id ≡ a → (b : Bool) → is_rotation (event_at es id).body ≡ b → (a || not b) ≡ false → (id < length es) × (is_rotation (event_at es id).body ≡ true)
    go true p b q r = clash true refl r
    go false p true q r = (leb-false _ _ p, q)
    go false p false q r = clash true refl r

unreadable : (es : List Event) (id : ℕ) → not_readable es id ≡ true → id < length es → is_rotation (event_at es id).body ≡ false
unfolding not_readable
unreadable es id e l = go (leb (length es) id) (lt-leb (length es) id l) (is_rotation (event_at es id).body) e
  where
    go : (a : Bool) → a ≡ false → (b : Bool) → (a || not b) ≡ true → b ≡ false
    go true p b r = clash true refl p
    go false p true r = clash false r refl
    go false p false r = refl

-- ---- whether an event is live, in the words of the set

pub alive_part : (h : List ℕ) (cap l id : ℕ) → id < cap → count_place cap l ≤ length h
    → id / 64 < length (take (length h - alive_place cap l) (drop (alive_place cap l) h))
alive_part h cap l id lt room = omega (arith, in_words id cap lt, rest_length h (alive_place cap l))

is_one : (b : Bool) → eqb (cond b 1 0) 1 ≡ b
is_one true = refl
is_one false = refl

in_set : (e n : ℕ) → e < n → e < words n * 64
unfolding words
in_set e n l = omega arith

pub live_told : (es : List Event) (h : List ℕ) (a id : ℕ) (r : Bool) → Alive a es h → id < length es
    → r ≡ eqb (member (take (length h - a) (drop a h)) id) 1 → r ≡ live_at es id
unfolding is_live
live_told es h a id r alive l e = e ∙ live_part h a id ∙ ap (λ (w : ℕ). eqb w 1) (alive id (in_set id (length es) l)) ∙ is_one (live_at es id)

-- ---- a read

module _ (f : Form) (n cap l id : ℕ) (m : State) (h : List ℕ) (holds : Holds f n cap l m h) (sane : Sane m) where
  pub read_there : not_readable m.events id ≡ false → id < get_or h 0 0
  read_there e = omega (arith, (readable m.events id e).0, holds.count)

  pub read_none : not_readable m.events id ≡ true → id < get_or h 0 0 → get_or h (tag_place cap id) 0 ≡ 0
  read_none e lt =
      let there : id < length m.events = omega (arith, holds.count) in
      blocker_word _ (event_at m.events id).body (holds.bodies.tag id there) (unreadable m.events id e there)

  pub read_Tells : not_readable m.events id ≡ false → Tells (get_or h (tag_place cap id) 0) (event_at m.events id).body
  read_Tells e =
      let there = readable m.events id e in
      rotation_Tells _ (event_at m.events id).body (holds.bodies.tag id there.0) (sane.signs id there.0) there.1

  pub read_small : not_readable m.events id ≡ false → get_or h (tag_place cap id) 0 / 4 < 4294967296
  read_small e = omega (arith, (read_Tells e).tag, holds.bodies.small id (readable m.events id e).0)

  -- the sign that the word tells
  module _ (e : not_readable m.events id ≡ false) (g : ℤ) where
    pub sign_plus : get_or h (tag_place cap id) 0 % 4 ≡ 1 → g ≡ pos 1 → sign_at (event_at m.events id).body ≡ g
    sign_plus k s = ⊎_elim (λ u. u.1 ∙ sym s) (λ u. absurd (omega (arith, u.0))) (read_Tells e).sgn

    pub sign_minus : get_or h (tag_place cap id) 0 % 4 ≡ 3 → g ≡ negsuc 0 → sign_at (event_at m.events id).body ≡ g
    sign_minus k s = ⊎_elim (λ u. absurd (omega (arith, u.0))) (λ u. u.1 ∙ sym s) (read_Tells e).sgn

  module _ (e : not_readable m.events id ≡ false) (r : Bool) (q : r ≡ eqb (member (take (length h - alive_place cap l) (drop (alive_place cap l) h)) id) 1) where
    -- what the code answers is the reading
    pub told : (tag : ℕ) (g : ℤ) → tag ≡ get_or h (tag_place cap id) 0 / 4 → sign_at (event_at m.events id).body ≡ g
        → record { tag = tag; sign = g; live = r } ≡ rotation_of (reading m.events id)
    unfolding rotation_of reading
    told tag g t s =
        let u = (read_Tells e).tag in
        let v = live_told m.events h (alive_place cap l) id r holds.alive (readable m.events id e).0 q in
        cc (t, u, v, s)

  -- one of both
  pub says_some : not_readable m.events id ≡ false → (get_or h (tag_place cap id) 0 % 4 ≡ 1 → ⊥) → (get_or h (tag_place cap id) 0 % 4 ≡ 3 → ⊥) → ⊥
  says_some e p q = ⊎_elim (λ u. p u.0) (λ u. q u.0) (read_Tells e).sgn
