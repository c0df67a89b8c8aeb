-- Pauli products, after 01, "Frames". A set of qubits is a number: qubit q is in s when binary digit q of s is 1. Assumes nothing.
use Rattle.std.specs.Prelude.{ℕ, zero, suc, ◌+◌, ◌-◌, ◌*◌, ◌/◌, ◌%◌, ◌^◌, ℤ, pos, negsuc}
use Rattle.std.specs.Int.Bits.{bit_and, bit_xor}

-- 1 when qubit q is in the set s, else 0.
unfoldable pub has : (s q : ℕ) → ℕ
has s q = s / 2 ^ q % 2

-- "A row is i^p times X on one qubit set, then Z on another; p is 0 to 3."
pub record Pauli : Type 0 where
  pub phase : ℕ
  pub x : ℕ
  pub z : ℕ

-- How many of the lowest `digits` binary digits of s are 1. It stops when nothing is left, so it computes for any qubit number.
unfoldable pub count_in : (digits s : ℕ) → ℕ
count_in zero s = 0
count_in (suc d) zero = 0
count_in (suc d) (suc s) = suc s % 2 + count_in d (suc s / 2)

-- How many qubits are in a set: a number s has no more than s digits. It is the library's `ones` (`count_is_ones`), which computes for small s only.
unfoldable pub count : ℕ → ℕ
unfolding count_in
count s = count_in s s

-- "Product: sets are combined by exclusive or, phases add, plus 2 if the first row's Z set meets the second's X set in an odd count, modulo 4."
unfoldable pub times : Pauli → Pauli → Pauli
times a b = record {
  phase = (a.phase + b.phase + 2 * (count (bit_and a.z b.x) % 2)) % 4;
  x = bit_xor a.x b.x;
  z = bit_xor a.z b.z;
}

-- The same product with phase + k.
unfoldable pub shift : ℕ → Pauli → Pauli
shift k a = record { phase = (a.phase + k) % 4; x = a.x; z = a.z }

-- The identity.
unfoldable pub plain : Pauli
plain = record { phase = 0; x = 0; z = 0 }

-- "Sign: p minus the number of qubits in both sets, modulo 4": what is left of the phase once each such qubit is written as Y = i X Z.
unfoldable pub quarter : Pauli → ℕ
quarter p = (p.phase + 4 - count (bit_and p.x p.z) % 4) % 4

-- "0 gives +1, 2 gives -1, and 1 or 3 never occurs" (`frames_kept`); they give no sign, which is written 0.
unfoldable pub sign_of : ℕ → ℤ
sign_of zero = pos 1
sign_of (suc zero) = pos 0
sign_of (suc (suc zero)) = negsuc 0
sign_of (suc (suc (suc k))) = pos 0

unfoldable pub sign : Pauli → ℤ
unfolding sign_of quarter
sign p = sign_of (quarter p)

-- "Two axes anticommute exactly when (X set of one in common with Z set of the other) plus (Z with X) counts an odd number": 1 then, else 0.
unfoldable pub apart : (ax az bx bz : ℕ) → ℕ
apart ax az bx bz = (count (bit_and ax bz) + count (bit_and az bx)) % 2

unfoldable pub anti : Pauli → Pauli → ℕ
anti a b = apart a.x a.z b.x b.z
