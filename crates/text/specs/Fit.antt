-- A whole text under a shape, as a function on lists, and what a step of the code stands for. Assumes nothing.
use Rattle.std.specs.Prelude.{ℕ, ◌≤◌, ◌≡◌, List, [], ◌∷◌, length, drop, Option, Some, None}
use Rattle.text.specs.Shape.{item_of}
use Rattle.text.specs.Taken.{Taken, got, past, none, taken}
use Rattle.text.specs.declared.shapes.Five.{Five}

-- ---- the values that were read, the last of them in e

abbrev pub zeros : Five
zeros = record { a = 0; b = 0; c = 0; d = 0; e = 0 }

abbrev pub pushed : Five → ℕ → Five
pushed f v = record { a = f.b; b = f.c; c = f.d; d = f.e; e = v }

abbrev pub pushes : Five → List ℕ → Five
pushes f [] = f
pushes f (v ∷ vs) = pushes (pushed f v) vs

-- ---- the items of a shape one after the other, to the text's end

abbrev pub onward : (ℕ → List ℕ → Option Five) → (List ℕ → Option Five) → Taken → Option Five
onward f g (got v t) = f v t
onward f g (past t) = g t
onward f g none = None

abbrev pub ended : List ℕ → Five → Option Five
ended [] f = Some f
ended (b ∷ t) f = None

unfoldable pub fitted : List ℕ → Five → List ℕ → Option Five
fitted [] f t = ended t f
fitted (c ∷ p) f t = onward (λ v u. fitted p (pushed f v) u) (λ u. fitted p f u) (taken (item_of c) t)

-- ---- what a place or a byte took of the text s, where: its value and the place after it

abbrev pub Gets : (s : List ℕ) → Option (ℕ × ℕ) → Taken → Type 0
Gets s (Some r) (got v t) = (r.0 ≡ v) × (r.1 ≤ length s) × (drop r.1 s ≡ t)
Gets s (Some r) (past t) = ⊥
Gets s (Some r) none = ⊥
Gets s None (got v t) = ⊥
Gets s None (past t) = ⊥
Gets s None none = Unit {0}

abbrev pub Passes : (s : List ℕ) → Option ℕ → Taken → Type 0
Passes s (Some n) (got v t) = ⊥
Passes s (Some n) (past t) = (n ≤ length s) × (drop n s ≡ t)
Passes s (Some n) none = ⊥
Passes s None (got v t) = ⊥
Passes s None (past t) = ⊥
Passes s None none = Unit {0}
