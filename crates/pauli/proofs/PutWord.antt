-- A word written at i / 64 that differs from the one there at digit i % 64 alone. Assumes nothing.
use mathlib.Core.Path.{◌≡◌, sym, ap, ◌∙◌}
use mathlib.Core.Logic.{⊎_elim}
use mathlib.Core.List.{List}
use Prim.Native.Nat.{ℕ, ◌-◌, ◌*◌, ◌/◌, ◌%◌, ◌^◌, ◌<◌}
use native.Mathlib.Omega.{arith}
use lib.ListN.{length, get_or, set, length-set}
use lib.Seq.{get_or-set_same, get_or-set_other}
use Rattle.model.specs.Pauli.{has}
use Rattle.pauli.specs.Sets.{member, Put}
use lib.Bits.{bit_and, bit_or, and_mask}
use Rattle.pauli.proofs.Digits.{bit_is, set_same, set_other, clear_same, clear_other}
use Rattle.pauli.proofs.Walk.{same?}

pub put_word : (s : List ℕ) (i v w : ℕ) → i / 64 < length s → has w (i % 64) ≡ v
    → ((j : ℕ) → j < 64 → (j ≡ i % 64 → ⊥) → has w j ≡ has (get_or s (i / 64) 0) j) → Put s i v (set s (i / 64) w)
put_word s i v w l e o = record {
  here = ap (λ (x : ℕ). has x (i % 64)) (get_or-set_same s (i / 64) w 0 l) ∙ e;
  other = λ j d. ⊎_elim (same j d) (λ n. ap (λ (x : ℕ). has x (j % 64)) (get_or-set_other s (i / 64) (j / 64) w 0 n)) (same? (j / 64) (i / 64));
  words = λ k d. get_or-set_other s (i / 64) k w 0 d;
  long = length-set s (i / 64) w;
}
  where
    same : (j : ℕ) → (j ≡ i → ⊥) → j / 64 ≡ i / 64 → member (set s (i / 64) w) j ≡ member s j
    same j d q =
        ap (λ (x : ℕ). has (get_or (set s (i / 64) w) x 0) (j % 64)) q
        ∙ ap (λ (x : ℕ). has x (j % 64)) (get_or-set_same s (i / 64) w 0 l)
        ∙ o (j % 64) (omega arith) (λ m. d (omega arith))
        ∙ ap (λ (x : ℕ). has (get_or s x 0) (j % 64)) (sym q)

-- what the machine writes for `s[i / 64] |= 1 << (i % 64)` and `s[i / 64] &= !(1 << (i % 64))`
module _ (s : List ℕ) (i : ℕ) (l : i / 64 < length s) where
  in_word : i % 64 < 64
  in_word = omega arith

  pub inserted : Put s i 1 (set s (i / 64) (bit_or (get_or s (i / 64) 0) ((1 * 2 ^ (i % 64)) % 2 ^ 64)))
  inserted =
      rw (bit_is 64 (i % 64) in_word)
      (put_word s i 1 (bit_or (get_or s (i / 64) 0) (2 ^ (i % 64))) l (set_same (get_or s (i / 64) 0) (i % 64)) (λ j lj d. set_other (get_or s (i / 64) 0) (i % 64) j d))

  pub removed : Put s i 0 (set s (i / 64) (bit_and (get_or s (i / 64) 0) ((2 ^ 64 - 1) - (1 * 2 ^ (i % 64)) % 2 ^ 64)))
  removed =
      rw (bit_is 64 (i % 64) in_word)
      (put_word s i 0 (bit_and (get_or s (i / 64) 0) ((2 ^ 64 - 1) - 2 ^ (i % 64))) l (clear_same 64 (get_or s (i / 64) 0) (i % 64) in_word)
      (λ j lj d. clear_other 64 (get_or s (i / 64) 0) (i % 64) j in_word lj d))

-- `(w >> i) & 1`
pub bit_read : (w i : ℕ) → bit_and (w / 2 ^ i) 1 ≡ has w i
unfolding has
bit_read w i = and_mask (w / 2 ^ i) 1
