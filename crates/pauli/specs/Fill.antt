-- Words written over others. Assumes nothing.
use Rattle.std.specs.Prelude.{◌≡◌, ◌⊎◌, List, ℕ, ◌+◌, ◌≤◌, ◌<◌, length, get_or}

-- t is s with the n words from `at` on written over: the word i of them is w i
pub record Written (s : List ℕ) (at n : ℕ) (w : ℕ → ℕ) (t : List ℕ) : Type 0 where
  pub same_length : length t ≡ length s
  pub here : (i : ℕ) → i < n → get_or t (at + i) 0 ≡ w i
  pub kept : (k : ℕ) → (k < at) ⊎ (at + n ≤ k) → get_or t k 0 ≡ get_or s k 0
