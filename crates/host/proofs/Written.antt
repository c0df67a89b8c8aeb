-- Words written into the first places of a slice, and a sign in a word. Assumes nothing.
use mathlib.Core.Path.{◌≡◌, refl, subst}
use mathlib.Core.Bool.{true, false, true≢false}
use mathlib.Core.List.{List, [], ◌∷◌}
use Prim.Native.Nat.{ℕ, ◌-◌, ◌^◌, ◌≤◌}
use native.Mathlib.Omega.{arith}
use lib.ListN.{length, set, drop}
use lib.IntN.{ℤ, pos, negsuc}
use lib.Signed.{lt_z}
use mir.Syntax.{w8}
use mir.Val.{SFits}
use mir.ValLaws.{to_z-of_z}
use borrow.Author.Tests.{ltb-true}
use Rattle.pauli.proofs.Signs.{bits8}
use Rattle.host.specs.Host.{sign_word}

pub three : (v : List ℕ) (a b c : ℕ) → 3 ≤ length v → set (set (set v 0 a) 1 b) 2 c ≡ a ∷ b ∷ c ∷ drop 3 v
three [] a b c h = absurd (omega (arith, h))
three (x ∷ []) a b c h = absurd (omega (arith, h))
three (x ∷ y ∷ []) a b c h = absurd (omega (arith, h))
three (x ∷ y ∷ z ∷ r) a b c h = refl

pub four : (v : List ℕ) (a b c d : ℕ) → 4 ≤ length v → set (set (set (set v 0 a) 1 b) 2 c) 3 d ≡ a ∷ b ∷ c ∷ d ∷ drop 4 v
four [] a b c d h = absurd (omega (arith, h))
four (x ∷ []) a b c d h = absurd (omega (arith, h))
four (x ∷ y ∷ []) a b c d h = absurd (omega (arith, h))
four (x ∷ y ∷ z ∷ []) a b c d h = absurd (omega (arith, h))
four (x ∷ y ∷ z ∷ w ∷ r) a b c d h = refl

-- the sign as the code compares it: its eight bits
below : (z : ℤ) → lt_z z (pos 0) ≡ true → 2 ^ 64 - 1 ≡ sign_word z
unfolding sign_word
below (pos n) k = let e = ltb-true n 0 k in absurd (omega arith)
below (negsuc n) k = refl

above : (z : ℤ) → lt_z z (pos 0) ≡ false → 1 ≡ sign_word z
unfolding sign_word
above (pos n) k = refl
above (negsuc n) k = absurd (true≢false k)

module _ (g : ℤ) (small : SFits w8 g) where
  pub minus : lt_z (bits8 g) (pos 0) ≡ true → 2 ^ 64 - 1 ≡ sign_word g
  minus h = below g (subst (λ (a : ℤ). lt_z a (pos 0) ≡ true) (to_z-of_z w8 g small) h)

  pub plus : lt_z (bits8 g) (pos 0) ≡ false → 1 ≡ sign_word g
  plus h = above g (subst (λ (a : ℤ). lt_z a (pos 0) ≡ false) (to_z-of_z w8 g small) h)

  -- and as it is handed on
  pub whole : (w : ℕ) → w ≡ sign_word (bits8 g) → w ≡ sign_word g
  whole w e = subst (λ (a : ℤ). w ≡ sign_word a) (to_z-of_z w8 g small) e
