-- The language of shapes. A shape is a text with places, in which
--     #   stands for a decimal of a number below 10 ^ 10: "decimals without leading zeros, at most 10 digits" (01)
--     $   for the same below 2 ^ 32, a tag
--     %   for a word of 64 bits as sixteen lowercase hexadecimal digits
--     ?   for a kind, one letter of x y z p
-- and every other character for itself. `print` puts values in their places. Assumes nothing.
use Rattle.std.specs.Prelude.{ℕ, zero, suc, ◌+◌, ◌/◌, ◌%◌, ◌^◌, ◌<◌, cond, List, [], ◌∷◌, ◌++◌, eqb, ltb}
use Prim.Native.Char.{code}
use Prim.Native.String.{String, [] as none, ◌∷◌ as ◌then◌}

abbrev pub bytes : String → List ℕ
bytes none = []
bytes (c then s) = code c ∷ bytes s

-- ---- digits

-- the digit of a value below 16, in lower case
unfoldable pub glyph : ℕ → ℕ
glyph v = cond (ltb v 10) (48 + v) (87 + v)

-- the last n digits at most of v, fewer where v has fewer
unfoldable pub digits : ℕ → ℕ → List ℕ
digits zero v = []
digits (suc n) v = cond (ltb v 10) (glyph v ∷ []) (digits n (v / 10) ++ (glyph (v % 10) ∷ []))

-- v in decimal: twenty digits hold any number of 64 bits
unfoldable pub decimal : ℕ → List ℕ
decimal v = digits 20 v

-- n hexadecimal digits of v
unfoldable pub hexes : ℕ → ℕ → List ℕ
hexes zero v = []
hexes (suc n) v = hexes n (v / 16) ++ (glyph (v % 16) ∷ [])

-- the letters of the kinds, by number: x, y, z, p
unfoldable pub letter : ℕ → ℕ
letter v = cond (eqb v 0) 120 (cond (eqb v 1) 121 (cond (eqb v 2) 122 112))

-- ---- items

-- a place for a number below a limit, for a word or for a kind; or a byte
pub data Item : Type 0 where
  number : ℕ → Item
  word : Item
  kind : Item
  byte : ℕ → Item

-- the item of a shape's byte: # is 35, $ 36, % 37, ? 63
unfoldable pub item_of : ℕ → Item
item_of c = cond (eqb c 35) (number 10000000000) (cond (eqb c 36) (number 4294967296) (cond (eqb c 37) word (cond (eqb c 63) kind (byte c))))

abbrev pub first : List ℕ → ℕ
first [] = 0
first (v ∷ vs) = v

abbrev pub rest : List ℕ → List ℕ
rest [] = []
rest (v ∷ vs) = vs

-- what an item shows of the values that are left, and which it leaves
abbrev pub shown : Item → List ℕ → List ℕ
shown (number l) vs = decimal (first vs)
shown word vs = hexes 16 (first vs)
shown kind vs = letter (first vs) ∷ []
shown (byte b) vs = b ∷ []

abbrev pub left : Item → List ℕ → List ℕ
left (number l) vs = rest vs
left word vs = rest vs
left kind vs = rest vs
left (byte b) vs = vs

unfoldable pub print : List ℕ → List ℕ → List ℕ
print [] vs = []
print (c ∷ p) vs = shown (item_of c) vs ++ print p (left (item_of c) vs)

-- ---- the values that a shape is read with: one for each place, each below the place's limit

abbrev pub limited : Item → List ℕ → List ℕ
limited (number l) ls = l ∷ ls
limited word ls = 2 ^ 64 ∷ ls
limited kind ls = 4 ∷ ls
limited (byte b) ls = ls

unfoldable pub limits : List ℕ → List ℕ
limits [] = []
limits (c ∷ p) = limited (item_of c) (limits p)

abbrev pub Below : List ℕ → List ℕ → Type 0
Below [] [] = Unit {0}
Below [] (l ∷ ls) = ⊥
Below (v ∷ vs) [] = ⊥
Below (v ∷ vs) (l ∷ ls) = (v < l) × Below vs ls

abbrev pub Good : List ℕ → List ℕ → Type 0
Good p vs = Below vs (limits p)

-- ---- a shape with its values

pub record Filled : Type 0 where
  pub shape : String
  pub values : List ℕ

abbrev pub fill : String → List ℕ → Filled
fill p vs = record { shape = p; values = vs }

-- its text
abbrev pub printed : Filled → List ℕ
printed f = print (bytes f.shape) f.values
