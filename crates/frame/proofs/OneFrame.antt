-- What a part of the store holds determines every word of it: two parts that hold the same frame and sketch are equal. Assumes nothing.
use mathlib.Core.Path.{◌≡◌, sym, ap, ◌∙◌}
use mathlib.Core.List.{List}
use Prim.Native.Nat.{ℕ, ◌+◌, ◌-◌, ◌*◌, ◌/◌, ◌%◌, ◌^◌, ◌<◌}
use native.Mathlib.Nat.{mod-lt, div-add-mod', div-lt_iff_lt-mul}
use native.Mathlib.Omega.{arith}
use native.Mathlib.Decide.{ℕ_discrete, dec_lt}
use lib.ListN.{length, get_or}
use lib.Seq.{ext_get_or}
use Rattle.model.specs.Pauli.{Pauli}
use Rattle.model.specs.Frame.{Rows}
use Rattle.model.specs.Sketch.{Label}
use Rattle.pauli.proofs.RowLaws.{value_words}
use Rattle.frame.specs.Places.{row_place, label_place, IsRow, IsLabel, Held}

module _ (s t : List ℕ) (fs : (i : ℕ) → get_or s i 0 < 2 ^ 64) (ft : (i : ℕ) → get_or t i 0 < 2 ^ 64) where
  -- at an index that is known by an equation
  same_at : (i j : ℕ) → i ≡ j → get_or s j 0 ≡ get_or t j 0 → get_or s i 0 ≡ get_or t i 0
  same_at i j e h = ap (λ (k : ℕ). get_or s k 0) e ∙ h ∙ sym (ap (λ (k : ℕ). get_or t k 0) e)

  row_words : (l a : ℕ) (p : Pauli) → IsRow l s a p → IsRow l t a p → (i : ℕ) → i < 2 * l + 1 → get_or s (a + i) 0 ≡ get_or t (a + i) 0
  row_words l a p u v i h =
      elim (ℕ_discrete i 0) [
        | yes e ↦ same_at (a + i) a (omega arith) (u.phase ∙ sym v.phase)
        | no e ↦ elim (dec_lt i (l + 1)) [
          | yes k ↦ same_at (a + i) (a + 1 + (i - 1)) (omega arith) (value_words s t l (a + 1) (a + 1) fs ft (u.x ∙ sym v.x) (i - 1) (omega arith))
          | no k ↦ same_at (a + i) (a + 1 + l + (i - (1 + l))) (omega arith)
              (value_words s t l (a + 1 + l) (a + 1 + l) fs ft (u.z ∙ sym v.z) (i - (1 + l)) (omega arith))
        ]
      ]

  label_words_lem : (a : ℕ) (b : Label) → IsLabel s a b → IsLabel t a b → (i : ℕ) → i < 2 → get_or s (a + i) 0 ≡ get_or t (a + i) 0
  label_words_lem a b u v i h =
      elim (ℕ_discrete i 0) [
        | yes e ↦ same_at (a + i) a (omega arith) (u.high ∙ sym v.high)
        | no e ↦ same_at (a + i) (a + 1) (omega arith) (u.low ∙ sym v.low)
      ]

  pub held_one : (n l : ℕ) (r : Rows Pauli) (k : Rows Label) → Held n l r k s → Held n l r k t → s ≡ t
  held_one n l r k u v = ext_get_or 0 s t (long ∙ sym v.rows.long) each
    where
      long : length s ≡ 2 * n * (2 * l + 1) + 2 * (2 * n)
      long = u.rows.long

      each : (i : ℕ) → i < length s → get_or s i 0 ≡ get_or t i 0
      each i h =
          elim (dec_lt i (2 * n * (2 * l + 1))) [
            | yes b ↦
                let w : 0 < 2 * l + 1 = omega arith in
                let g : ℕ = i / (2 * l + 1) in
                let o : ℕ = i % (2 * l + 1) in
                let there : g < 2 * n = (div-lt_iff_lt-mul w).1 b in
                same_at i (row_place l g + o) (sym (div-add-mod' i (2 * l + 1)))
                (row_words l (row_place l g) _ (u.rows.row g there) (v.rows.row g there) o (mod-lt i w))
            | no b ↦
                let d : ℕ = i - 2 * n * (2 * l + 1) in
                let there : d / 2 < 2 * n = omega (arith, long) in
                same_at i (label_place (2 * n) l (d / 2) + d % 2) (omega arith)
                (label_words_lem (label_place (2 * n) l (d / 2)) _ (u.rows.label (d / 2) there) (v.rows.label (d / 2) there) (d % 2) (omega arith))
          ]
