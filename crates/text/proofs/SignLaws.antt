-- What a look found is printed by its sign, as the machine reads that off its bits. Assumes nothing.
use Prim.Native.Nat.{ℕ}
use Prim.Native.String.{String}
use mathlib.Core.Path.{◌≡◌, refl, sym, subst}
use mathlib.Core.Bool.{true, false}
use mathlib.Core.List.{List, [], ◌∷◌}
use native.Mathlib.Omega.{arith}
use borrow.Author.Tests.{ltb-true}
use lib.IntN.{ℤ, pos, negsuc}
use lib.Signed.{lt_z}
use mir.Syntax.{w8}
use mir.Val.{SFits}
use mir.ValLaws.{to_z-of_z}
use Rattle.model.specs.Search.{found}
use Rattle.model.specs.Calls.{looked}
use Rattle.pauli.proofs.Signs.{bits8}
use Rattle.store.specs.Promises.{seen_of}
use Rattle.history.specs.declared.findings.Found.{Found}
use Rattle.history.specs.declared.findings.Found.TheVariants.{Partner}
use Rattle.text.specs.Shape.{fill, printed}
use Rattle.text.specs.Wrote.{Wrote}
use Rattle.text.specs.Spoken.{replied, found_shape, spoken}

minus : (g : ℤ) → lt_z g (pos 0) ≡ true → "line=# look=found id=# sign=-1 steps=#\n" ≡ found_shape g
minus (pos n) h = let k = ltb-true n 0 h in absurd (omega arith)
minus (negsuc n) h = refl

plus : (g : ℤ) → lt_z g (pos 0) ≡ false → "line=# look=found id=# sign=1 steps=#\n" ≡ found_shape g
plus (pos n) h = refl
plus (negsuc n) h = let z : ◌≡◌ {A = ℕ} 0 1 = cc in absurd (omega arith)

module _ (o : List ℕ) (l id : ℕ) (g : ℤ) (n : ℕ) (o' : List ℕ) (r : ℕ) (small : SFits w8 g) where
  pub Wrote-minus : lt_z (bits8 g) (pos 0) ≡ true → Wrote o 0 (printed (fill "line=# look=found id=# sign=-1 steps=#\n" (l ∷ id ∷ n ∷ []))) o' r
      → Wrote o 0 (spoken (replied l (looked (found id g n)))) o' r
  unfolding spoken
  Wrote-minus h w =
      let e : lt_z g (pos 0) ≡ true = subst (λ (a : ℤ). lt_z a (pos 0) ≡ true) (to_z-of_z w8 g small) h in
      subst (λ (p : String). Wrote o 0 (printed (fill p (l ∷ id ∷ n ∷ []))) o' r) (minus g e) w

  pub Wrote-plus : lt_z (bits8 g) (pos 0) ≡ false → Wrote o 0 (printed (fill "line=# look=found id=# sign=1 steps=#\n" (l ∷ id ∷ n ∷ []))) o' r
      → Wrote o 0 (spoken (replied l (looked (found id g n)))) o' r
  unfolding spoken
  Wrote-plus h w =
      let e : lt_z g (pos 0) ≡ false = subst (λ (a : ℤ). lt_z a (pos 0) ≡ false) (to_z-of_z w8 g small) h in
      subst (λ (p : String). Wrote o 0 (printed (fill p (l ∷ id ∷ n ∷ []))) o' r) (plus g e) w

  -- the sign of what a look found, handed on
  pub wrote_found : (f : Found) → f ≡ Partner id g → Wrote o 0 (spoken (replied l (looked (found id (bits8 g) n)))) o' r
      → Wrote o 0 (spoken (replied l (looked (seen_of f n)))) o' r
  unfolding seen_of
  wrote_found f e w =
      subst (λ (x : Found). Wrote o 0 (spoken (replied l (looked (seen_of x n)))) o' r) (sym e)
      (subst (λ (a : ℤ). Wrote o 0 (spoken (replied l (looked (found id a n)))) o' r) (to_z-of_z w8 g small) w)
