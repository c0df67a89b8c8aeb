-- What a number names, and what a promise about it comes to. Assumes nothing.
use mathlib.Core.Path.{◌≡◌, subst}
use mathlib.Core.List.{List}
use Prim.Native.Nat.{ℕ, ◌≤◌, ◌<◌}
use native.Mathlib.Omega.{arith}
use lib.ListN.{length}
use Rattle.host.specs.Numbers.{Meant, known, unknown}
use Rattle.host.specs.Host.{Lent, Named}

-- where the number names something, the promise is of that
pub meant : {A : Type 0} (m : Meant A) (a : A) (P : A → Type 0) (U : Type 0) → known a ≡ m → P a → Named m P U
unfolding Named
meant {A = A} m a P U e h = subst (λ (x : Meant A). Named x P U) e h

pub unnamed : {A : Type 0} (m : Meant A) (P : A → Type 0) (U : Type 0) → unknown ≡ m → U → Named m P U
unfolding Named
unnamed {A = A} m P U e h = subst (λ (x : Meant A). Named x P U) e h

-- ---- an answer that takes so many words

pub roomy : (room : ℕ) (v : List ℕ) (P Short : Type 0) → room ≤ length v → P → Lent room v P Short
roomy room v P Short h p = record { whole = λ _. p; short = λ k. absurd (omega (arith, h, k)) }

pub cramped : (room : ℕ) (v : List ℕ) (P Short : Type 0) → length v < room → Short → Lent room v P Short
cramped room v P Short h p = record { whole = λ k. absurd (omega (arith, h, k)); short = λ _. p }
