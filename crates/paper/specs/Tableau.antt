-- S. Aaronson and D. Gottesman, "Improved simulation of stabilizer circuits", Phys. Rev. A 70, 052328 (2004), section III: a row of a tableau, what
-- CNOT, Hadamard and Phase do to it, and the rowsum. Written from the paper; none of our rules is used. Assumes nothing.
use Rattle.std.specs.Prelude.{ℕ, zero, suc, ◌+◌, ◌-◌, ◌*◌, ◌/◌, ◌%◌, ◌^◌, List, [], ◌∷◌, ◌++◌, ℤ, pos, negsuc, ◌+ℤ◌, ◌-ℤ◌, ◌*ℤ◌}
use Rattle.std.specs.Int.Bits.{bit_xor}

-- ---- rows

-- The bits x_j and z_j of a row, one of each for every qubit j, are the binary digits j of two numbers. r is the sign bit.
pub record Row : Type 0 where
  pub r : ℕ
  pub x : ℕ
  pub z : ℕ

-- v_j
unfoldable pub bit : (v j : ℕ) → ℕ
bit v j = v / 2 ^ j % 2

-- a ⊕ b
unfoldable pub plus : (a b : ℕ) → ℕ
plus a b = (a + b) % 2

-- v with v_j ⊕ b for v_j
unfoldable pub add : (v j b : ℕ) → ℕ
add v j b = bit_xor v (b * 2 ^ j)

-- A row means (-1)^r times the letters of its qubits, by x_j z_j: 00 is I, 10 is X, 11 is Y, 01 is Z.
pub data Letter : Type 0 where
  letter_i letter_x letter_y letter_z : Letter

unfoldable pub letter : (x z : ℕ) → Letter
letter zero zero = letter_i
letter (suc x) zero = letter_x
letter (suc x) (suc z) = letter_y
letter zero (suc z) = letter_z

-- ---- the three gates

pub data Step : Type 0 where
  cnot : (a b : ℕ) → Step
  hadamard phase : (a : ℕ) → Step

-- What a gate G makes of P, GPG†, every new bit from the old ones.
-- CNOT from a to b: r ⊕= x_a z_b (x_b ⊕ z_a ⊕ 1), x_b ⊕= x_a, z_a ⊕= z_b.
-- Hadamard on a: r ⊕= x_a z_a, and x_a and z_a change places: both change where they differ.
-- Phase on a: r ⊕= x_a z_a, z_a ⊕= x_a.
unfoldable pub update : Step → Row → Row
update (cnot a b) w = record {
  r = plus w.r (bit w.x a * bit w.z b * plus (plus (bit w.x b) (bit w.z a)) 1);
  x = add w.x b (bit w.x a);
  z = add w.z a (bit w.z b);
}
update (hadamard a) w = record {
  r = plus w.r (bit w.x a * bit w.z a);
  x = add w.x a (plus (bit w.x a) (bit w.z a));
  z = add w.z a (plus (bit w.x a) (bit w.z a));
}
update (phase a) w = record { r = plus w.r (bit w.x a * bit w.z a); x = w.x; z = add w.z a (bit w.x a) }

-- a circuit, its first gate first: P becomes GPG†
unfoldable pub run : List Step → Row → Row
run [] w = w
run (s ∷ ss) w = run ss (update s w)

-- CNOT and Hadamard undo themselves, and Phase has order 4
unfoldable pub undo : Step → List Step
undo (cnot a b) = cnot a b ∷ []
undo (hadamard a) = hadamard a ∷ []
undo (phase a) = phase a ∷ phase a ∷ phase a ∷ []

-- the inverse of a circuit: the inverse of its last gate first
unfoldable pub inverse : List Step → List Step
inverse [] = []
inverse (s ∷ ss) = inverse ss ++ undo s

-- ---- the rowsum

-- The exponent of i in the product of the letters x1 z1 and x2 z2: for x1 z1 = 00 it is 0, for 11 z2 - x2, for 10 z2 (2 x2 - 1), for 01
-- x2 (1 - 2 z2).
unfoldable pub g : (x1 z1 x2 z2 : ℕ) → ℤ
g zero zero x2 z2 = pos 0
g (suc x1) (suc z1) x2 z2 = pos z2 -ℤ pos x2
g (suc x1) zero x2 z2 = pos z2 *ℤ (pos (2 * x2) -ℤ pos 1)
g zero (suc z1) x2 z2 = pos x2 *ℤ (pos 1 -ℤ pos (2 * z2))

-- its sum over the qubits below n, the factor i first
unfoldable pub exponent : (n : ℕ) → (i h : Row) → ℤ
exponent zero i h = pos 0
exponent (suc n) i h = exponent n i h +ℤ g (bit i.x n) (bit i.z n) (bit h.x n) (bit h.z n)

-- an integer modulo 4
unfoldable pub mod4 : ℤ → ℕ
mod4 (pos k) = k % 4
mod4 (negsuc k) = 3 - k % 4

-- 2 r_h + 2 r_i + the sum, modulo 4
unfoldable pub total : (n : ℕ) → (i h : Row) → ℕ
total n i h = mod4 (pos (2 * h.r + 2 * i.r) +ℤ exponent n i h)

-- The rowsum of row i into row h: the new sign bit is 0 if the total is 0 and 1 if it is 2; for rows that commute it is never 1 or 3.
unfoldable pub rowsum : (n : ℕ) → (i h : Row) → Row
rowsum n i h = record { r = total n i h / 2; x = bit_xor i.x h.x; z = bit_xor i.z h.z }
