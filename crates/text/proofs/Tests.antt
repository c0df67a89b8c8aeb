-- Case by case: a test and its equation, a rule for each number below n, and what the last arm of a long match knows. Assumes nothing.
use Prim.Native.Nat.{ℕ, zero, suc, ◌+◌, ◌≤◌, ◌<◌}
use mathlib.Core.Path.{◌≡◌, refl, sym, subst}
use mathlib.Core.Bool.{Bool, true, false, ◌&&◌}
use native.Mathlib.Omega.{arith}
use borrow.Author.Tests.{eqb-true, eqb-false}
use lib.Dec.{eqb}
use Rattle.model.proofs.Members.{and_both}
use Rattle.pauli.proofs.Nots.{Nots, least}

-- a test and the equation that it computes to
pub decided {ℓ} : {P : Type ℓ} (b : Bool) → (b ≡ true → P) → (b ≡ false → P) → P
decided true f g = f refl
decided false f g = g refl

-- ---- a rule for each number below n, from its cases or from a computed test

abbrev pub Each : ℕ → (ℕ → Type 0) → Type 0
Each zero P = Unit {0}
Each (suc n) P = Each n P × P n

pub each : (n : ℕ) (P : ℕ → Type 0) → Each n P → (k : ℕ) → k < n → P k
each zero P h k m = absurd (omega arith)
each (suc n) P h k m =
    decided (eqb k n)
    (λ e. subst P (sym (eqb-true k n e)) h.1)
    (λ e. let d : k ≡ n → ⊥ = eqb-false k n e in each n P h.0 k (omega arith))

abbrev pub every : ℕ → (ℕ → Bool) → Bool
every zero f = true
every (suc n) f = every n f && f n

pub checked : (n : ℕ) (f : ℕ → Bool) → every n f ≡ true → (k : ℕ) → k < n → f k ≡ true
checked zero f h k m = absurd (omega arith)
checked (suc n) f h k m =
    let b = and_both (every n f) (f n) h in
    decided (eqb k n)
    (λ e. subst (λ (i : ℕ). f i ≡ true) (sym (eqb-true k n e)) b.1)
    (λ e. let d : k ≡ n → ⊥ = eqb-false k n e in checked n f b.0 k (omega arith))

-- ---- a number from b on that is none of the next n, and below the one after them, is that one

pub last : (k b n : ℕ) → b ≤ k → k < b + suc n → Nots k b n → k ≡ b + n
last k b n h m r = let i = least k b n h r in omega arith
