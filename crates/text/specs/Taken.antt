-- Reading as a function on lists: what an item of a shape takes from the front of a text. Assumes nothing.
use Rattle.std.specs.Prelude.{ℕ, zero, suc, ◌+◌, ◌-◌, ◌*◌, cond, List, [], ◌∷◌, eqb, ltb}
use Rattle.text.specs.Shape.{Item, number, word, kind, byte}

-- a value and the text after it; the text after a byte that has no value; or nothing
pub data Taken : Type 0 where
  got : ℕ → List ℕ → Taken
  past : List ℕ → Taken
  none : Taken

-- the value of a digit, and 16 of what is none
unfoldable pub nibble : ℕ → ℕ
nibble b = cond (ltb b 48) 16 (cond (ltb b 58) (b - 48) (cond (ltb b 97) 16 (cond (ltb b 103) (b - 87) 16)))

-- a number below l of which acc was read: no digit follows a leading zero
unfoldable pub more : ℕ → List ℕ → ℕ → Taken
more l [] acc = got acc []
more l (b ∷ t) acc =
    cond (ltb (nibble b) 10)
    (cond (eqb acc 0) none (cond (ltb (acc * 10 + nibble b) l) (more l t (acc * 10 + nibble b)) none))
    (got acc (b ∷ t))

unfoldable pub number_at : ℕ → List ℕ → Taken
number_at l [] = none
number_at l (b ∷ t) = cond (ltb (nibble b) 10) (more l t (nibble b)) none

-- n hexadecimal digits more
unfoldable pub word_at : ℕ → ℕ → List ℕ → Taken
word_at zero acc t = got acc t
word_at (suc n) acc [] = none
word_at (suc n) acc (b ∷ t) = cond (ltb (nibble b) 16) (word_at n (acc * 16 + nibble b) t) none

unfoldable pub kind_at : List ℕ → Taken
kind_at [] = none
kind_at (b ∷ t) = cond (eqb b 120) (got 0 t) (cond (eqb b 121) (got 1 t) (cond (eqb b 122) (got 2 t) (cond (eqb b 112) (got 3 t) none)))

unfoldable pub byte_at : ℕ → List ℕ → Taken
byte_at c [] = none
byte_at c (b ∷ t) = cond (eqb b c) (past t) none

abbrev pub taken : Item → List ℕ → Taken
taken (number l) t = number_at l t
taken word t = word_at 16 0 t
taken kind t = kind_at t
taken (byte c) t = byte_at c t
