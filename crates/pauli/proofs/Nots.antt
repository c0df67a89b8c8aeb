-- What the last arm of a match on numbers knows. Assumes nothing.
use mathlib.Core.Path.{◌≡◌}
use Prim.Native.Nat.{ℕ, zero, suc, ◌+◌, ◌≤◌}
use native.Mathlib.Omega.{arith}

-- k is none of the n numbers from b on
abbrev pub Nots : (k b n : ℕ) → Type 0
Nots k b zero = Unit {0}
Nots k b (suc n) = Nots k b n × (k ≡ b + n → ⊥)

-- so, where it is not below b, it is at least b + n
pub least : (k b n : ℕ) → b ≤ k → Nots k b n → b + n ≤ k
least k b zero h m = omega arith
least k b (suc n) h m = let i = least k b n h m.0 in let e = m.1 in omega arith
