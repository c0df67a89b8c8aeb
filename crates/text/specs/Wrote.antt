-- What writing a text into a buffer leaves. Assumes nothing.
use Rattle.std.specs.Prelude.{ℕ, ◌+◌, ◌≤◌, min, ◌≡◌, List, length, take}
use Rattle.std.proofs.lemmas.List.Edits.{sets}

-- The text t was written into the buffer o from the place `at` on, which left o', and r is the place after it: its bytes one after the other, as far
-- as the buffer goes, and everything else as it was. The first two fields say that; the others follow, and are what a caller needs of `&out[..r]`.
pub record Wrote (o : List ℕ) (at : ℕ) (t o' : List ℕ) (r : ℕ) : Type 0 where
  pub left : o' ≡ sets o at t
  pub next : r ≡ min (at + length t) (length o)
  pub same_length : length o' ≡ length o
  pub within : r ≤ length o'
  pub counts : r ≡ length (take r o')
