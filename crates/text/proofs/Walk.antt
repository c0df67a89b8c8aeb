-- A walk along a shape, a step of the code at a time (`shapes::read_by`). Assumes nothing.
use Prim.Native.Nat.{ℕ, ◌+◌, ◌≤◌, ◌<◌}
use mathlib.Core.Path.{◌≡◌, refl, sym, ap, ap₂}
use mathlib.Core.List.{List}
use native.Mathlib.Omega.{arith}
use lib.ListN.{length, get_or, drop, drop_of_length-le}
use Rattle.std.specs.Prelude.{Option, Some, None}
use Rattle.text.specs.Shape.{Item, item_of}
use Rattle.text.specs.Taken.{Taken, got, past, none, taken}
use Rattle.text.specs.Fit.{Gets, Passes, fitted, onward, pushed}
use Rattle.text.specs.declared.shapes.Five.{Five}
use Rattle.text.proofs.Steps.{drop_next}

module _ (s : List ℕ) (F : ℕ → List ℕ → Option Five) (G : List ℕ → Option Five) where
  at_got : (v n : ℕ) (x : Taken) → Gets s (Some (v, n)) x → (n ≤ length s) × (onward F G x ≡ F v (drop n s))
  at_got v n (got w t) h = (h.1, sym (ap₂ F h.0 h.2))
  at_got v n (past t) h = absurd h
  at_got v n none h = absurd h

  at_past : (n : ℕ) (x : Taken) → Passes s (Some n) x → (n ≤ length s) × (onward F G x ≡ G (drop n s))
  at_past n (got w t) h = absurd h
  at_past n (past t) h = (h.0, sym (ap G h.1))
  at_past n none h = absurd h

  no_value : (x : Taken) → Gets s None x → onward F G x ≡ None
  no_value (got w t) h = absurd h
  no_value (past t) h = absurd h
  no_value none h = refl

  no_byte : (x : Taken) → Passes s None x → onward F G x ≡ None
  no_byte (got w t) h = absurd h
  no_byte (past t) h = absurd h
  no_byte none h = refl

-- at an item of the shape
module _ (p s : List ℕ) (f : Five) (at i : ℕ) (h : i < length p) (x : Item) (e : x ≡ item_of (get_or p i 0)) where
  pub walk_got : (v n : ℕ) → Gets s (Some (v, n)) (taken x (drop at s))
      → (n ≤ length s) × (fitted (drop i p) f (drop at s) ≡ fitted (drop (i + 1) p) (pushed f v) (drop n s))
  unfolding fitted
  walk_got v n k = rw (drop_next p i h, ← e) (at_got s _ _ v n (taken x (drop at s)) k)

  pub walk_past : (n : ℕ) → Passes s (Some n) (taken x (drop at s))
      → (n ≤ length s) × (fitted (drop i p) f (drop at s) ≡ fitted (drop (i + 1) p) f (drop n s))
  unfolding fitted
  walk_past n k = rw (drop_next p i h, ← e) (at_past s _ _ n (taken x (drop at s)) k)

  pub walk_no_value : Gets s None (taken x (drop at s)) → fitted (drop i p) f (drop at s) ≡ None
  unfolding fitted
  walk_no_value k = rw (drop_next p i h, ← e) (no_value s _ _ (taken x (drop at s)) k)

  pub walk_no_byte : Passes s None (taken x (drop at s)) → fitted (drop i p) f (drop at s) ≡ None
  unfolding fitted
  walk_no_byte k = rw (drop_next p i h, ← e) (no_byte s _ _ (taken x (drop at s)) k)

-- at its end
module _ (p s : List ℕ) (f : Five) (at i : ℕ) (h : length p ≤ i) where
  pub walk_end : at ≡ length s → fitted (drop i p) f (drop at s) ≡ Some f
  unfolding fitted
  walk_end e = let k : length s ≤ at = omega arith in rw (drop_of_length-le p h, drop_of_length-le s k)

  pub walk_long : at ≤ length s → (at ≡ length s → ⊥) → fitted (drop i p) f (drop at s) ≡ None
  unfolding fitted
  walk_long m e = let k : at < length s = omega arith in rw (drop_of_length-le p h, drop_next s at k)
