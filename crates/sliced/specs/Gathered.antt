-- Which entries of a block anticommute with an axis, by its masks. Assumes nothing.
use Rattle.std.specs.Prelude.{◌≡◌, List, ℕ, zero, suc, ◌+◌, ◌*◌, ◌<◌, get_or}
use Rattle.std.specs.Int.Bits.{bit_xor}
use Rattle.model.specs.Pauli.{has, apart}

-- x where the digit d is set
unfoldable pub pick : (d x : ℕ) → ℕ
pick zero x = 0
pick (suc d) x = x

-- the exclusive or of f p over the set digits p of w below k
unfoldable pub over : ℕ → (ℕ → ℕ) → ℕ → ℕ
unfolding pick
over zero f w = 0
over (suc k) f w = bit_xor (over k f w) (pick (has w k) (f k))

-- the X mask (odd is 0) or the Z mask (odd is 1) of qubit p, in a block whose masks stand from `at` on
abbrev pub mask : List ℕ → (at odd p : ℕ) → ℕ
mask masks at odd p = get_or masks (at + (2 * p + odd)) 0

-- the exclusive or of such masks of the qubits in w, of n in all
abbrev pub gathered : List ℕ → (at n odd w : ℕ) → ℕ
gathered masks at n odd w = over n (mask masks at odd) w

-- entry i of the block has the axis (x, z)
pub record Has (masks : List ℕ) (at n i x z : ℕ) : Type 0 where
  pub xs : (p : ℕ) → p < n → has (mask masks at 0 p) i ≡ has x p
  pub zs : (p : ℕ) → p < n → has (mask masks at 1 p) i ≡ has z p

-- digit i of the word r is 1 where entry i anticommutes with (ax, az)
abbrev pub Marks : List ℕ → (at n ax az r : ℕ) → Type 0
Marks masks at n ax az r = (i x z : ℕ) → Has masks at n i x z → has r i ≡ apart x z ax az
