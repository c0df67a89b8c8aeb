-- Laws of words written over others, and of the fresh frames that an opening writes. Assumes nothing.
use mathlib.Core.Path.{◌≡◌, refl, sym, ap, ap₂, ◌∙◌, subst}
use mathlib.Core.Logic.{◌⊎◌, inl, inr, ⊎_elim}
use mathlib.Core.Bool.{Bool, cond}
use mathlib.Core.List.{List, [], ◌∷◌}
use Prim.Native.Nat.{ℕ, zero, suc, ◌+◌, ◌*◌, ◌/◌, ◌%◌, ◌^◌, ◌≤◌, ◌<◌}
use native.Mathlib.Nat.{add-zero, add_assoc, add-suc, suc-add, zero-add, mul_assoc, mul-one, not-suc-le-zero}
use native.Mathlib.Omega.{arith}
use native.Mathlib.Decide.{ℕ_discrete}
use lib.Pow.{pow-add}
use lib.ListN.{length, get_or, set, length-set, length-map}
use lib.Seq.{get_or-set_same, get_or-set_other}
use borrow.Author.Tests.{eq-eqb, ne_eqb}
use Rattle.model.specs.Pauli.{Pauli}
use Rattle.model.specs.Frame.{x_at, z_at, paulis, from, pauli_x, pauli_z, fresh}
use Rattle.model.specs.Sketch.{no_label, labels, label_rows}
use Rattle.model.proofs.Invariant.{length_from, fresh_x, fresh_z}
use Rattle.model.proofs.Labels.{label_rows-length}
use Rattle.pauli.specs.Rows.{value_at}
use Rattle.frame.specs.Places.{Sized, row_place, label_place, IsRow, IsLabel, row_of, Held}
use Rattle.pauli.specs.Fill.{Written}
use Rattle.frame.specs.Begun.{only, Begun}
use Rattle.frame.proofs.RowedLaws.{rows_apart, row_fits, same_row, row_even, row_odd}

-- ---- one word among zeros

pub only_same : (j v : ℕ) → only j v j ≡ v
unfolding only
only_same j v = ap (λ (b : Bool). cond b v 0) (eq-eqb j j refl)

pub only_other : (j v i : ℕ) → (i ≡ j → ⊥) → only j v i ≡ 0
unfolding only
only_other j v i h = ap (λ (b : Bool). cond b v 0) (ne_eqb i j h)

-- words of 0, and then one of them written
pub Written-only : (s t : List ℕ) (at m j x v : ℕ) → at + m ≤ length s → j < m → v ≡ x → Written s at m (λ i. 0) t → Written s at m (only j x) (set t (at + j) v)
Written-only s t at m j x v h l e w =
    let n = w.same_length in
    record {
      same_length = length-set t (at + j) v ∙ n;
      here = λ k g. elim (ℕ_discrete k j) [
        | yes d ↦ ap (λ (i : ℕ). get_or (set t (at + j) v) (at + i) 0) d ∙ get_or-set_same t (at + j) v 0 (omega arith) ∙ e ∙ sym (only_same j x) ∙ ap (only j x) (sym d)
        | no d ↦ get_or-set_other t (at + j) (at + k) v 0 (λ f. omega arith) ∙ w.here k g ∙ sym (only_other j x k d)
      ];
      kept = λ k g. get_or-set_other t (at + j) k v 0 (λ f. ⊎_elim (λ z. omega arith) (λ z. omega arith) g) ∙ w.kept k g;
    }

-- ---- the sets that such words write

pub value_none : (s : List ℕ) (n a : ℕ) → ((i : ℕ) → i < n → get_or s (a + i) 0 ≡ 0) → value_at s a n ≡ 0
unfolding value_at
value_none s zero a h = refl
value_none s (suc n) a h =
    ap₂ (λ (m w : ℕ). m * 2 ^ 64 + w)
    (value_none s n (suc a) (λ i g. ap (λ (k : ℕ). get_or s k 0) (suc-add a i ∙ sym (add-suc a i)) ∙ h (suc i) (omega arith)))
    (ap (λ (k : ℕ). get_or s k 0) (sym (add-zero a)) ∙ h 0 (omega arith))

-- the words are 0 but for v at j
pub value_one : (s : List ℕ) (n a j v : ℕ) → j < n → ((i : ℕ) → i < n → get_or s (a + i) 0 ≡ only j v i) → value_at s a n ≡ v * 2 ^ (64 * j)
unfolding value_at
value_one s zero a j v l h = absurd (not-suc-le-zero l)
value_one s (suc n) a zero v l h =
    ap₂ (λ (m w : ℕ). m * 2 ^ 64 + w)
    (value_none s n (suc a) (λ i g.
    ap (λ (k : ℕ). get_or s k 0) (suc-add a i ∙ sym (add-suc a i)) ∙ h (suc i) (omega arith) ∙ only_other 0 v (suc i) (λ e. omega arith)))
    (ap (λ (k : ℕ). get_or s k 0) (sym (add-zero a)) ∙ h 0 (omega arith) ∙ only_same 0 v)
    ∙ zero-add v ∙ sym (mul-one v)
value_one s (suc n) a (suc j) v l h =
    ap₂ (λ (m w : ℕ). m * 2 ^ 64 + w)
    (value_one s n (suc a) j v (omega arith) (λ i g.
    ap (λ (k : ℕ). get_or s k 0) (suc-add a i ∙ sym (add-suc a i)) ∙ h (suc i) (omega arith) ∙ only_down i j v))
    (ap (λ (k : ℕ). get_or s k 0) (sym (add-zero a)) ∙ h 0 (omega arith) ∙ only_other (suc j) v 0 (λ e. omega arith))
    ∙ add-zero (v * 2 ^ (64 * j) * 2 ^ 64) ∙ mul_assoc v (2 ^ (64 * j)) (2 ^ 64)
    ∙ ap (λ (x : ℕ). v * x) (sym (pow-add 2 (64 * j) 64) ∙ ap (λ (k : ℕ). 2 ^ k) (line j))
  where
    line : (j : ℕ) → 64 * j + 64 ≡ 64 * suc j
    line j = omega arith

    only_down : (i j v : ℕ) → only (suc j) v (suc i) ≡ only j v i
    only_down i j v =
        elim (ℕ_discrete i j) [
          | yes e ↦ ap (λ (k : ℕ). only (suc j) v (suc k)) e ∙ only_same (suc j) v ∙ sym (only_same j v) ∙ ap (only j v) (sym e)
          | no d ↦ only_other (suc j) v (suc i) (λ e. omega arith) ∙ sym (only_other j v i d)
        ]

-- digit q % 64 of word q / 64 is qubit q
pub digit_is : (q : ℕ) → 2 ^ (q % 64) * 2 ^ (64 * (q / 64)) ≡ 2 ^ q
digit_is q =
    let e : q % 64 + 64 * (q / 64) ≡ q = omega arith in
    sym (pow-add 2 (q % 64) (64 * (q / 64))) ∙ ap (λ (k : ℕ). 2 ^ k) e

-- ---- rows with one digit

-- a plane that begins o words into the row: with the digit in it, and without
module _ (s t : List ℕ) (a m j v : ℕ) (w : Written s a m (only j v) t) where
  pub plane_one : (o l k : ℕ) → o + l ≤ m → k < l → j ≡ o + k → value_at t (a + o) l ≡ v * 2 ^ (64 * k)
  plane_one o l k h g e = value_one t l (a + o) k v g (λ i b. ap (λ (n : ℕ). get_or t n 0) (add_assoc a o i) ∙ w.here (o + i) (omega arith) ∙ shifted i)
    where
      shifted : (i : ℕ) → only j v (o + i) ≡ only k v i
      shifted i =
          elim (ℕ_discrete i k) [
            | yes d ↦
                let f : o + i ≡ j = omega arith in
                ap (only j v) f ∙ only_same j v ∙ sym (only_same k v) ∙ ap (only k v) (sym d)
            | no d ↦ only_other j v (o + i) (λ f. omega arith) ∙ sym (only_other k v i d)
          ]

  pub plane_none : (o l : ℕ) → o + l ≤ m → (j < o) ⊎ (o + l ≤ j) → value_at t (a + o) l ≡ 0
  plane_none o l h side =
      value_none t l (a + o) (λ i b.
      ap (λ (n : ℕ). get_or t n 0) (add_assoc a o i) ∙ w.here (o + i) (omega arith) ∙ only_other j v (o + i) (λ f. ⊎_elim (λ z. omega arith) (λ z. omega arith) side))

  pub Phase-none : 0 < m → 0 < j → get_or t a 0 ≡ 0
  Phase-none h g = ap (λ (n : ℕ). get_or t n 0) (sym (add-zero a)) ∙ w.here 0 h ∙ only_other j v 0 (λ f. omega arith)

module _ (s t : List ℕ) (a l q : ℕ) (h : q / 64 < l) where
  pub row_x : Written s a (2 * l + 1) (only (1 + q / 64) (2 ^ (q % 64))) t → IsRow l t a (pauli_x q)
  unfolding pauli_x
  row_x w = record {
    phase = Phase-none s t a (2 * l + 1) (1 + q / 64) (2 ^ (q % 64)) w (omega arith) (omega arith);
    small = omega arith;
    x = plane_one s t a (2 * l + 1) (1 + q / 64) (2 ^ (q % 64)) w 1 l (q / 64) (omega arith) h refl ∙ digit_is q;
    z = ap (λ (k : ℕ). value_at t k l) (add_assoc a 1 l) ∙ plane_none s t a (2 * l + 1) (1 + q / 64) (2 ^ (q % 64)) w (1 + l) l (omega arith) (inl (omega arith));
  }

  pub row_z : Written s a (2 * l + 1) (only (1 + (l + q / 64)) (2 ^ (q % 64))) t → IsRow l t a (pauli_z q)
  unfolding pauli_z
  row_z w = record {
    phase = Phase-none s t a (2 * l + 1) (1 + (l + q / 64)) (2 ^ (q % 64)) w (omega arith) (omega arith);
    small = omega arith;
    x = plane_none s t a (2 * l + 1) (1 + (l + q / 64)) (2 ^ (q % 64)) w 1 l (omega arith) (inr (omega arith));
    z = ap (λ (k : ℕ). value_at t k l) (add_assoc a 1 l)
        ∙ plane_one s t a (2 * l + 1) (1 + (l + q / 64)) (2 ^ (q % 64)) w (1 + l) l (q / 64) (omega arith) h (omega arith) ∙ digit_is q;
  }

-- ---- the rows of one qubit after the other

module _ (n l q : ℕ) (h : q < n) where
  pub x_fits : row_place l (2 * q) + (2 * l + 1) ≤ 2 * n * (2 * l + 1)
  x_fits = row_fits (2 * n) l (2 * q) (omega arith)

  pub z_fits : row_place l (2 * q + 1) + (2 * l + 1) ≤ 2 * n * (2 * l + 1)
  z_fits = row_fits (2 * n) l (2 * q + 1) (omega arith)

pub row_still : (s t : List ℕ) (l g k : ℕ) (w : ℕ → ℕ) (p : Pauli) → (g ≡ k → ⊥) → Written s (row_place l k) (2 * l + 1) w t → IsRow l s (row_place l g) p
    → IsRow l t (row_place l g) p
row_still s t l g k w p d m r =
    same_row l s t (row_place l g) (row_place l g) p
    (λ i h. m.kept (row_place l g + i) (⊎_elim (λ z. inl (omega arith)) (λ z. inr (omega arith)) (rows_apart l g k d))) r

pub Begun-none : (l : ℕ) (s : List ℕ) → Begun 0 l s
Begun-none l s = record { x = λ q h. absurd (not-suc-le-zero h); z = λ q h. absurd (not-suc-le-zero h) }

pub begun_more : (s t u : List ℕ) (l q : ℕ) → q / 64 < l → Begun q l s
    → Written s (row_place l (2 * q)) (2 * l + 1) (only (1 + q / 64) (2 ^ (q % 64))) t
    → Written t (row_place l (2 * q + 1)) (2 * l + 1) (only (1 + (l + q / 64)) (2 ^ (q % 64))) u → Begun (q + 1) l u
begun_more s t u l q h b m w = record {
  x = λ p g. elim (ℕ_discrete p q) [
    | yes e ↦ subst (λ (k : ℕ). IsRow l u (row_place l (2 * k)) (pauli_x k)) (sym e)
        (row_still t u l (2 * q) (2 * q + 1) (only (1 + (l + q / 64)) (2 ^ (q % 64))) (pauli_x q) (λ f. omega arith) w (row_x s t (row_place l (2 * q)) l q h m))
    | no d ↦ old (2 * p) (pauli_x p) (λ f. omega arith) (λ f. omega arith) (b.x p (omega arith))
  ];
  z = λ p g. elim (ℕ_discrete p q) [
    | yes e ↦ subst (λ (k : ℕ). IsRow l u (row_place l (2 * k + 1)) (pauli_z k)) (sym e) (row_z t u (row_place l (2 * q + 1)) l q h w)
    | no d ↦ old (2 * p + 1) (pauli_z p) (λ f. omega arith) (λ f. omega arith) (b.z p (omega arith))
  ];
}
  where
    old : (g : ℕ) (p : Pauli) → (g ≡ 2 * q → ⊥) → (g ≡ 2 * q + 1 → ⊥) → IsRow l s (row_place l g) p → IsRow l u (row_place l g) p
    old g p d f r =
        row_still t u l g (2 * q + 1) (only (1 + (l + q / 64)) (2 ^ (q % 64))) p f w
        (row_still s t l g (2 * q) (only (1 + q / 64) (2 ^ (q % 64))) p d m r)

-- ---- the labels as they are given

pub labels_x : (ws : List ℕ) (q : ℕ) → 4 * q + 4 ≤ length ws → get_or (label_rows ws).xs q no_label ≡ record { high = get_or ws (4 * q) 0; low = get_or ws (4 * q + 1) 0 }
unfolding label_rows
labels_x [] q h = absurd (omega arith)
labels_x (a ∷ []) q h = absurd (omega arith)
labels_x (a ∷ b ∷ []) q h = absurd (omega arith)
labels_x (a ∷ b ∷ c ∷ []) q h = absurd (omega arith)
labels_x (a ∷ b ∷ c ∷ d ∷ ws) zero h = refl
labels_x (a ∷ b ∷ c ∷ d ∷ ws) (suc q) h =
    let e : 4 * suc q ≡ suc (suc (suc (suc (4 * q)))) = omega arith in
    let f : 4 * suc q + 1 ≡ suc (suc (suc (suc (4 * q + 1)))) = omega arith in
    labels_x ws q (omega arith)
    ∙ ap₂ (λ (i j : ℕ). record { high = get_or (a ∷ b ∷ c ∷ d ∷ ws) i 0; low = get_or (a ∷ b ∷ c ∷ d ∷ ws) j 0 }) (sym e) (sym f)

pub labels_z : (ws : List ℕ) (q : ℕ) → 4 * q + 4 ≤ length ws → get_or (label_rows ws).zs q no_label ≡ record { high = get_or ws (4 * q + 2) 0; low = get_or ws (4 * q + 3) 0 }
unfolding label_rows
labels_z [] q h = absurd (omega arith)
labels_z (a ∷ []) q h = absurd (omega arith)
labels_z (a ∷ b ∷ []) q h = absurd (omega arith)
labels_z (a ∷ b ∷ c ∷ []) q h = absurd (omega arith)
labels_z (a ∷ b ∷ c ∷ d ∷ ws) zero h = refl
labels_z (a ∷ b ∷ c ∷ d ∷ ws) (suc q) h =
    let e : 4 * suc q + 2 ≡ suc (suc (suc (suc (4 * q + 2)))) = omega arith in
    let f : 4 * suc q + 3 ≡ suc (suc (suc (suc (4 * q + 3)))) = omega arith in
    labels_z ws q (omega arith)
    ∙ ap₂ (λ (i j : ℕ). record { high = get_or (a ∷ b ∷ c ∷ d ∷ ws) i 0; low = get_or (a ∷ b ∷ c ∷ d ∷ ws) j 0 }) (sym e) (sym f)

-- ---- both frames

-- s, the words with fresh rows, and t, with the labels ws behind them
module _ (n l : ℕ) (ws s t : List ℕ) (sized : Sized (2 * n) l s) (enough : length ws ≡ 4 * n) (b : Begun n l s)
    (at : ℕ) (place : at ≡ 2 * n * (2 * l + 1)) (w : Written s at (length ws) (λ i. get_or ws i 0) t) where
  begun_row : (g : ℕ) (p : Pauli) → g < 2 * n → IsRow l s (row_place l g) p → IsRow l t (row_place l g) p
  begun_row g p h r =
      let fits = row_fits (2 * n) l g h in
      same_row l s t (row_place l g) (row_place l g) p (λ i k. w.kept (row_place l g + i) (inl (omega arith))) r

  row_fresh : (g : ℕ) → g < 2 * n → IsRow l t (row_place l g) (row_of paulis (fresh n) g)
  row_fresh g h =
      elim (ℕ_discrete (g % 2) 0) [
        | yes e ↦
            let k : 2 * (g / 2) ≡ g = omega arith in
            let lt : g / 2 < n = omega arith in
            begun_row g (row_of paulis (fresh n) g) h
            (subst (IsRow l s (row_place l g)) (sym (row_even paulis (fresh n) g e ∙ fresh_x n (g / 2) lt))
            (subst (λ (j : ℕ). IsRow l s (row_place l j) (pauli_x (g / 2))) k (b.x (g / 2) lt)))
        | no e ↦
            let k : 2 * (g / 2) + 1 ≡ g = omega arith in
            let lt : g / 2 < n = omega arith in
            begun_row g (row_of paulis (fresh n) g) h
            (subst (IsRow l s (row_place l g)) (sym (row_odd paulis (fresh n) g e ∙ fresh_z n (g / 2) lt))
            (subst (λ (j : ℕ). IsRow l s (row_place l j) (pauli_z (g / 2))) k (b.z (g / 2) lt)))
      ]

  -- the label words of row g
  label_words_lem : (g : ℕ) → g < 2 * n → IsLabel t (label_place (2 * n) l g) (record { high = get_or ws (2 * g) 0; low = get_or ws (2 * g + 1) 0 })
  label_words_lem g h =
      let e : label_place (2 * n) l g ≡ at + 2 * g = omega arith in
      let f : label_place (2 * n) l g + 1 ≡ at + (2 * g + 1) = omega arith in
      record {
        high = ap (λ (k : ℕ). get_or t k 0) e ∙ w.here (2 * g) (omega arith);
        low = ap (λ (k : ℕ). get_or t k 0) f ∙ w.here (2 * g + 1) (omega arith);
      }

  label_given : (g : ℕ) → g < 2 * n → row_of labels (label_rows ws) g ≡ record { high = get_or ws (2 * g) 0; low = get_or ws (2 * g + 1) 0 }
  unfolding labels x_at z_at
  label_given g h =
      elim (ℕ_discrete (g % 2) 0) [
        | yes e ↦
            let i : 4 * (g / 2) ≡ 2 * g = omega arith in
            let j : 4 * (g / 2) + 1 ≡ 2 * g + 1 = omega arith in
            row_even labels (label_rows ws) g e ∙ labels_x ws (g / 2) (omega arith)
            ∙ ap₂ (λ (i j : ℕ). record { high = get_or ws i 0; low = get_or ws j 0 }) i j
        | no e ↦
            let i : 4 * (g / 2) + 2 ≡ 2 * g = omega arith in
            let j : 4 * (g / 2) + 3 ≡ 2 * g + 1 = omega arith in
            row_odd labels (label_rows ws) g e ∙ labels_z ws (g / 2) (omega arith)
            ∙ ap₂ (λ (i j : ℕ). record { high = get_or ws i 0; low = get_or ws j 0 }) i j
      ]

  pub fresh-Held : Held n l (fresh n) (label_rows ws) t
  unfolding fresh
  fresh-Held = record {
    xs = length-map (from 0 n) pauli_x ∙ length_from 0 n;
    zs = length-map (from 0 n) pauli_z ∙ length_from 0 n;
    label_xs = (label_rows-length ws n enough).0;
    label_zs = (label_rows-length ws n enough).1;
    rows = record {
      long = w.same_length ∙ sized;
      row = row_fresh;
      label = λ g h. subst (IsLabel t (label_place (2 * n) l g)) (sym (label_given g h)) (label_words_lem g h);
    };
  }
