-- Words as sets of qubits and rows as words. What a row is, its sign and anticommutation are `model`'s. Assumes nothing.
use Rattle.std.specs.Prelude.{◌≡◌, ◌⊎◌, cond, Option, Some, None, List, [], ◌∷◌, ℕ, zero, suc, ◌+◌, ◌*◌, ◌/◌, ◌^◌, ◌≤◌, ◌<◌, length, take, drop, get_or, ℤ, pos, negsuc}
use Rattle.std.specs.Int.Bits.{bit_xor}
use Rattle.model.specs.Pauli.{Pauli}
use Rattle.model.specs.Events.{touches}

-- ---- words

-- the set that words write: qubit q is digit q % 64 of word q / 64
unfoldable pub value : List ℕ → ℕ
value [] = 0
value (w ∷ ws) = value ws * 2 ^ 64 + w

-- the set that the n words from index a on write
unfoldable pub value_at : List ℕ → (a n : ℕ) → ℕ
value_at s a zero = 0
value_at s a (suc n) = value_at s (suc a) n * 2 ^ 64 + get_or s a 0

-- the two planes of a row: its first half and the rest
unfoldable pub x_of : List ℕ → ℕ
unfolding value
x_of row = value (take (length row / 2) row)

unfoldable pub z_of : List ℕ → ℕ
unfolding value
z_of row = value (drop (length row / 2) row)

-- a row of words, X plane first, with its phase
unfoldable pub of_row : (phase : ℕ) → List ℕ → Pauli
of_row p row = record { phase = p; x = x_of row; z = z_of row }

-- ---- answers

-- `model`'s sign as the code answers it: 0 is no sign
unfoldable pub answer : ℤ → Option ℤ
answer (pos zero) = None
answer (pos (suc k)) = Some (pos (suc k))
answer (negsuc k) = Some (negsuc k)

-- ---- signatures

-- the number whose digit b, for b < k, is 1 where the axis touches bit b
unfoldable pub touched : (l x z k : ℕ) → ℕ
touched l x z zero = 0
touched l x z (suc k) = cond (touches l x z k) 1 0 * 2 ^ k + touched l x z k

-- the 64 bits of an axis's signature
unfoldable pub signature : (l x z : ℕ) → ℕ
unfolding touched
signature l x z = touched l x z 64

-- the same of one set
unfoldable pub blocks : (l s k : ℕ) → ℕ
unfolding touched
blocks l s k = touched l s 0 k

-- a set of which the words after j are u and what is left of word j is w
unfoldable pub left : (u j w : ℕ) → ℕ
left u j w = (u * 2 ^ 64 + w) * 2 ^ (64 * j)

-- ---- rows of one slice

-- t is s with the n words from `at` on xored with those from `by` on
pub record Multiplied (s : List ℕ) (at by n : ℕ) (t : List ℕ) : Type 0 where
  pub same_length : length t ≡ length s
  pub changed : (i : ℕ) → i < n → get_or t (at + i) 0 ≡ bit_xor (get_or s (at + i) 0) (get_or s (by + i) 0)
  pub kept : (k : ℕ) → (k < at) ⊎ (at + n ≤ k) → get_or t k 0 ≡ get_or s k 0

-- t is s with the n words from `at` on and those from `by` on exchanged
pub record Exchanged (s : List ℕ) (at by n : ℕ) (t : List ℕ) : Type 0 where
  pub same_length : length t ≡ length s
  pub here : (i : ℕ) → i < n → get_or t (at + i) 0 ≡ get_or s (by + i) 0
  pub there : (i : ℕ) → i < n → get_or t (by + i) 0 ≡ get_or s (at + i) 0
  pub kept : (k : ℕ) → (k < at) ⊎ (at + n ≤ k) → (k < by) ⊎ (by + n ≤ k) → get_or t k 0 ≡ get_or s k 0
