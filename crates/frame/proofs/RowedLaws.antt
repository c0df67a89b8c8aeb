-- Laws of rows in a frame's words: where they lie, and what the words are once one or two of them have changed. Assumes nothing.
use mathlib.Core.Path.{◌≡◌, refl, sym, ap, ap₂, ◌∙◌, subst}
use mathlib.Core.Logic.{◌⊎◌, inl, inr, ⊎_elim}
use mathlib.Core.Bool.{Bool, cond}
use mathlib.Core.List.{List}
use Prim.Native.Nat.{ℕ, ◌+◌, ◌*◌, ◌/◌, ◌%◌, ◌^◌, ◌≤◌, ◌<◌}
use native.Mathlib.Nat.{mul-le-mul_right, suc-mul, add_assoc, add-zero, le_trans, le_of_eq}
use native.Mathlib.Omega.{arith}
use native.Mathlib.Decide.{ℕ_discrete, dec_lt}
use lib.Bits.{bit_and, bit_xor}
use lib.ListN.{length, get_or, set, length-set}
use lib.Seq.{get_or-set_same, get_or-set_other}
use borrow.Author.Tests.{eq-eqb, ne_eqb}
use Rattle.model.specs.Pauli.{Pauli, count, times, shift}
use Rattle.model.specs.Frame.{Ops, Rows, x_at, z_at, paulis}
use Rattle.model.specs.Sketch.{Label, label_xor, labels}
use Rattle.pauli.specs.Rows.{value_at, Multiplied, Exchanged}
use Rattle.pauli.proofs.RowLaws.{value_same, Multiplied-value}
use Rattle.frame.specs.Places.{row_place, label_place, IsRow, IsLabel, Rowed, put, swap_row, turn_row, times_row, row_of}

-- ---- one value changed

module _ {A : Type 0} (f : ℕ → A) (g : ℕ) (a : A) where
  pub put_same : put f g a g ≡ a
  unfolding put
  put_same = ap (λ (b : Bool). cond b a (f g)) (eq-eqb g g refl)

  pub put_other : (j : ℕ) → (j ≡ g → ⊥) → put f g a j ≡ f j
  unfolding put
  put_other j h = ap (λ (b : Bool). cond b a (f j)) (ne_eqb j g h)

-- ---- the rows of a frame by their parity

module _ {A : Type 0} (o : Ops A) (r : Rows A) (g : ℕ) where
  pub row_even : g % 2 ≡ 0 → row_of o r g ≡ x_at o r (g / 2)
  unfolding row_of
  row_even e = ap (λ (b : Bool). cond b (x_at o r (g / 2)) (z_at o r (g / 2))) (eq-eqb (g % 2) 0 e)

  pub row_odd : (g % 2 ≡ 0 → ⊥) → row_of o r g ≡ z_at o r (g / 2)
  unfolding row_of
  row_odd e = ap (λ (b : Bool). cond b (x_at o r (g / 2)) (z_at o r (g / 2))) (ne_eqb (g % 2) 0 e)

module _ {A : Type 0} (o : Ops A) (r : Rows A) (q : ℕ) where
  pub at_x : row_of o r (2 * q) ≡ x_at o r q
  at_x =
      let e : 2 * q % 2 ≡ 0 = omega arith in
      let h : 2 * q / 2 ≡ q = omega arith in
      row_even o r (2 * q) e ∙ ap (x_at o r) h

  pub at_z : row_of o r (2 * q + 1) ≡ z_at o r q
  at_z =
      let h : (2 * q + 1) / 2 ≡ q = omega arith in
      row_odd o r (2 * q + 1) (λ e. omega arith) ∙ ap (z_at o r) h

-- ---- where rows lie

pub row_fits : (m l g : ℕ) → g < m → row_place l g + (2 * l + 1) ≤ m * (2 * l + 1)
row_fits m l g h = le_trans (le_of_eq (sym (suc-mul g (2 * l + 1)))) (mul-le-mul_right (2 * l + 1) h)

pub rows_apart : (l g k : ℕ) → (g ≡ k → ⊥) → (row_place l g + (2 * l + 1) ≤ row_place l k) ⊎ (row_place l k + (2 * l + 1) ≤ row_place l g)
rows_apart l g k f =
    elim (dec_lt g k) [
      | yes h ↦ inl (row_fits k l g h)
      | no h ↦ let less : k < g = omega arith in inr (row_fits g l k less)
    ]

pub labels_apart : (m l g k : ℕ) → (g ≡ k → ⊥) → (label_place m l g + 2 ≤ label_place m l k) ⊎ (label_place m l k + 2 ≤ label_place m l g)
labels_apart m l g k f =
    elim (dec_lt g k) [
      | yes h ↦ inl (omega arith)
      | no h ↦ inr (omega arith)
    ]

-- ---- a row and a label by their words

pub same_row : (l : ℕ) (s t : List ℕ) (a b : ℕ) (p : Pauli) → ((i : ℕ) → i < 2 * l + 1 → get_or t (b + i) 0 ≡ get_or s (a + i) 0) → IsRow l s a p → IsRow l t b p
same_row l s t a b p w r = record {
  phase = ap (λ (k : ℕ). get_or t k 0) (sym (add-zero b)) ∙ w 0 (omega arith) ∙ ap (λ (k : ℕ). get_or s k 0) (add-zero a) ∙ r.phase;
  small = r.small;
  x = value_same s t l (a + 1) (b + 1) (λ i h. at 1 i (omega arith)) ∙ r.x;
  z = value_same s t l (a + 1 + l) (b + 1 + l) (λ i h.
      let eb : b + 1 + l + i ≡ b + (1 + l) + i = omega arith in
      let ea : a + (1 + l) + i ≡ a + 1 + l + i = omega arith in
      ap (λ (k : ℕ). get_or t k 0) eb ∙ at (1 + l) i (omega arith) ∙ ap (λ (k : ℕ). get_or s k 0) ea) ∙ r.z;
}
  where
    at : (o i : ℕ) → o + i < 2 * l + 1 → get_or t (b + o + i) 0 ≡ get_or s (a + o + i) 0
    at o i h = ap (λ (k : ℕ). get_or t k 0) (add_assoc b o i) ∙ w (o + i) h ∙ ap (λ (k : ℕ). get_or s k 0) (sym (add_assoc a o i))

pub same_label_lem : (s t : List ℕ) (a b : ℕ) (v : Label) → ((i : ℕ) → i < 2 → get_or t (b + i) 0 ≡ get_or s (a + i) 0) → IsLabel s a v → IsLabel t b v
same_label_lem s t a b v w r = record {
  high = ap (λ (k : ℕ). get_or t k 0) (sym (add-zero b)) ∙ w 0 (omega arith) ∙ ap (λ (k : ℕ). get_or s k 0) (add-zero a) ∙ r.high;
  low = w 1 (omega arith) ∙ r.low;
}

-- ---- one row changed

-- k is outside the row g and its label
abbrev pub Beside : (m l g k : ℕ) → Type 0
Beside m l g k = ((k < row_place l g) ⊎ (row_place l g + (2 * l + 1) ≤ k)) × ((k < label_place m l g) ⊎ (label_place m l g + 2 ≤ k))

-- the words of another row, and of its label, are outside
pub row_Beside : (m l g j i : ℕ) → g < m → j < m → (j ≡ g → ⊥) → i < 2 * l + 1 → Beside m l g (row_place l j + i)
row_Beside m l g j i hg hj d h = (
  ⊎_elim (λ k. inl (omega arith)) (λ k. inr (omega arith)) (rows_apart l j g d),
  inl (omega (arith, row_fits m l j hj)),
)

pub label_Beside : (m l g j i : ℕ) → g < m → (j ≡ g → ⊥) → i < 2 → Beside m l g (label_place m l j + i)
label_Beside m l g j i hg d h = (
  inr (omega (arith, row_fits m l g hg)),
  ⊎_elim (λ k. inl (omega arith)) (λ k. inr (omega arith)) (labels_apart m l j g d),
)

pub Rowed-put : (m l g : ℕ) (s t : List ℕ) (P : ℕ → Pauli) (L : ℕ → Label) (p : Pauli) (b : Label) → g < m → Rowed m l P L s → length t ≡ length s
    → IsRow l t (row_place l g) p → IsLabel t (label_place m l g) b → ((k : ℕ) → Beside m l g k → get_or t k 0 ≡ get_or s k 0)
    → Rowed m l (put P g p) (put L g b) t
Rowed-put m l g s t P L p b hg held e row label kept = record {
  long = e ∙ held.long;
  row = λ j hj. elim (ℕ_discrete j g) [
    | yes i ↦ subst (λ (k : ℕ). IsRow l t (row_place l k) (put P g p k)) (sym i) (subst (IsRow l t (row_place l g)) (sym (put_same P g p)) row)
    | no d ↦ subst (IsRow l t (row_place l j)) (sym (put_other P g p j d))
        (same_row l s t (row_place l j) (row_place l j) (P j) (λ i h. kept (row_place l j + i) (row_Beside m l g j i hg hj d h)) (held.row j hj))
  ];
  label = λ j hj. elim (ℕ_discrete j g) [
    | yes i ↦ subst (λ (k : ℕ). IsLabel t (label_place m l k) (put L g b k)) (sym i) (subst (IsLabel t (label_place m l g)) (sym (put_same L g b)) label)
    | no d ↦ subst (IsLabel t (label_place m l j)) (sym (put_other L g b j d))
        (same_label_lem s t (label_place m l j) (label_place m l j) (L j) (λ i h. kept (label_place m l j + i) (label_Beside m l g j i hg d h)) (held.label j hj))
  ];
}

-- the phase turned
pub turned_Rowed : (m l g by : ℕ) (s : List ℕ) (P : ℕ → Pauli) (L : ℕ → Label) → g < m → Rowed m l P L s
    → Rowed m l (turn_row paulis by g P) (turn_row labels by g L) (set s (row_place l g) ((get_or s (row_place l g) 0 + by) % 4))
unfolding turn_row paulis labels shift
turned_Rowed m l g by s P L hg held =
    let a : ℕ = row_place l g in
    let v : ℕ = (get_or s a 0 + by) % 4 in
    let fits = row_fits m l g hg in
    let long = held.long in
    let r = held.row g hg in
    Rowed-put m l g s (set s a v) P L (shift by (P g)) (L g) hg held (length-set s a v)
    (record {
      phase = get_or-set_same s a v 0 (omega arith) ∙ ap (λ (n : ℕ). (n + by) % 4) r.phase;
      small = omega arith;
      x = value_same s (set s a v) l (a + 1) (a + 1) (λ i h. get_or-set_other s a (a + 1 + i) v 0 (λ e. omega arith)) ∙ r.x;
      z = value_same s (set s a v) l (a + 1 + l) (a + 1 + l) (λ i h. get_or-set_other s a (a + 1 + l + i) v 0 (λ e. omega arith)) ∙ r.z;
    })
    (same_label_lem s (set s a v) (label_place m l g) (label_place m l g) (L g) (λ i h. get_or-set_other s a (label_place m l g + i) v 0 (λ e. omega arith)) (held.label g hg))
    (λ k side. get_or-set_other s a k v 0 (λ e. ⊎_elim (λ h. omega arith) (λ h. omega arith) side.0))

-- ---- one row multiplied by another

-- two words xored with two others
pub mixed : (s : List ℕ) (at by : ℕ) → at + 2 ≤ length s → by + 2 ≤ length s → (at ≡ by → ⊥) → (at ≡ by + 1 → ⊥) → (by ≡ at + 1 → ⊥)
    → Multiplied s at by 2 (set (set s at (bit_xor (get_or s at 0) (get_or s by 0))) (at + 1)
    (bit_xor (get_or (set s at (bit_xor (get_or s at 0) (get_or s by 0))) (at + 1) 0) (get_or (set s at (bit_xor (get_or s at 0) (get_or s by 0))) (by + 1) 0)))
mixed s at by ha hb d e f =
    let v : ℕ = bit_xor (get_or s at 0) (get_or s by 0) in
    let t : List ℕ = set s at v in
    let w : ℕ = bit_xor (get_or t (at + 1) 0) (get_or t (by + 1) 0) in
    let long : length t ≡ length s = length-set s at v in
    let still : (k : ℕ) → (k ≡ at → ⊥) → get_or t k 0 ≡ get_or s k 0 = λ k n. get_or-set_other s at k v 0 n in
    record {
      same_length = length-set t (at + 1) w ∙ long;
      changed = λ i h. elim (ℕ_discrete i 0) [
        | yes z ↦
            let ea : at + i ≡ at = omega arith in
            let eb : by + i ≡ by = omega arith in
            ap (λ (k : ℕ). get_or (set t (at + 1) w) k 0) ea ∙ get_or-set_other t (at + 1) at w 0 (λ n. omega arith) ∙ get_or-set_same s at v 0 (omega arith)
            ∙ sym (ap₂ (λ (j k : ℕ). bit_xor (get_or s j 0) (get_or s k 0)) ea eb)
        | no z ↦
            let ea : at + i ≡ at + 1 = omega arith in
            let eb : by + i ≡ by + 1 = omega arith in
            ap (λ (k : ℕ). get_or (set t (at + 1) w) k 0) ea ∙ get_or-set_same t (at + 1) w 0 (omega arith)
            ∙ ap₂ bit_xor (still (at + 1) (λ n. omega arith)) (still (by + 1) (λ n. e (sym n)))
            ∙ sym (ap₂ (λ (j k : ℕ). bit_xor (get_or s j 0) (get_or s k 0)) ea eb)
      ];
      kept = λ k h. get_or-set_other t (at + 1) k w 0 (λ n. ⊎_elim (λ b. omega arith) (λ b. omega arith) h) ∙ still k (λ n. ⊎_elim (λ b. omega arith) (λ b. omega arith) h);
    }

-- s, the words with the planes multiplied, with the phase set, and with the labels mixed
module _ (m l g k by odd : ℕ) (s t u : List ℕ) (P : ℕ → Pauli) (L : ℕ → Label) (hg : g < m) (hk : k < m) (d : g ≡ k → ⊥) (w : (i : ℕ) → get_or s i 0 < 2 ^ 64)
    (held : Rowed m l P L s) (planes : Multiplied s (row_place l g + 1) (row_place l k + 1) (2 * l) t)
    (ho : odd ≡ count (bit_and (value_at s (row_place l g + 1 + l) l) (value_at s (row_place l k + 1) l)) % 2)
    (tags : Multiplied (set t (row_place l g) ((get_or s (row_place l g) 0 + get_or s (row_place l k) 0 + 2 * odd + by) % 4)) (label_place m l g) (label_place m l k) 2 u) where
  v : ℕ
  v = (get_or s (row_place l g) 0 + get_or s (row_place l k) 0 + 2 * odd + by) % 4

  -- outside the label, and but for the phase
  late : (j : ℕ) → (j ≡ row_place l g → ⊥) → (j < label_place m l g) ⊎ (label_place m l g + 2 ≤ j) → get_or u j 0 ≡ get_or t j 0
  unfolding v
  late j e h = tags.kept j h ∙ get_or-set_other t (row_place l g) j v 0 e

  row_times : IsRow l u (row_place l g) (shift by (times (P g) (P k)))
  unfolding v shift times
  row_times =
      let a : ℕ = row_place l g in
      let b : ℕ = row_place l k in
      let fits = row_fits m l g hg in
      let long = held.long in
      let ra = held.row g hg in
      let rb = held.row k hk in
      let here : a < length t = omega (arith, planes.same_length) in
      record {
        phase = tags.kept a (inl (omega arith)) ∙ get_or-set_same t a v 0 here
            ∙ ap₂ (λ (p q : ℕ). (p + q + 2 * odd + by) % 4) ra.phase rb.phase
            ∙ ap (λ (o : ℕ). ((P g).phase + (P k).phase + 2 * o + by) % 4) (ho ∙ ap₂ (λ (p q : ℕ). count (bit_and p q) % 2) ra.z rb.x)
            ∙ omega arith;
        small = omega arith;
        x = value_same t u l (a + 1) (a + 1) (λ i h. late (a + 1 + i) (λ e. omega arith) (inl (omega arith)))
            ∙ ap (λ (j : ℕ). value_at t j l) (sym (add-zero (a + 1)))
            ∙ Multiplied-value s t (a + 1) (b + 1) (2 * l) 0 l w planes (omega arith)
            ∙ ap₂ (λ (i j : ℕ). bit_xor (value_at s i l) (value_at s j l)) (add-zero (a + 1)) (add-zero (b + 1))
            ∙ ap₂ bit_xor ra.x rb.x;
        z = value_same t u l (a + 1 + l) (a + 1 + l) (λ i h. late (a + 1 + l + i) (λ e. omega arith) (inl (omega arith)))
            ∙ Multiplied-value s t (a + 1) (b + 1) (2 * l) l l w planes (omega arith)
            ∙ ap₂ bit_xor ra.z rb.z;
      }

  -- the labels are as they were until they are mixed
  early : (j i : ℕ) → get_or (set t (row_place l g) v) (label_place m l j + i) 0 ≡ get_or s (label_place m l j + i) 0
  early j i =
      let fits = row_fits m l g hg in
      get_or-set_other t (row_place l g) (label_place m l j + i) v 0 (λ e. omega arith) ∙ planes.kept (label_place m l j + i) (inr (omega arith))

  label_times : IsLabel u (label_place m l g) (label_xor (L g) (L k))
  unfolding v label_xor
  label_times =
      let a : ℕ = label_place m l g in
      let b : ℕ = label_place m l k in
      let la = held.label g hg in
      let lb = held.label k hk in
      let both : (i : ℕ) → i < 2 → get_or u (a + i) 0 ≡ bit_xor (get_or s (a + i) 0) (get_or s (b + i) 0) = λ i h. tags.changed i h ∙ ap₂ bit_xor (early g i) (early k i) in
      record {
        high = ap (λ (j : ℕ). get_or u j 0) (sym (add-zero a)) ∙ both 0 (omega arith)
            ∙ ap₂ (λ (i j : ℕ). bit_xor (get_or s i 0) (get_or s j 0)) (add-zero a) (add-zero b) ∙ ap₂ bit_xor la.high lb.high;
        low = both 1 (omega arith) ∙ ap₂ bit_xor la.low lb.low;
      }

  pub times_Rowed : Rowed m l (times_row paulis by g k P) (times_row labels by g k L) u
  unfolding v times_row paulis labels
  times_Rowed =
      Rowed-put m l g s u P L (shift by (times (P g) (P k))) (label_xor (L g) (L k)) hg held
      (tags.same_length ∙ length-set t (row_place l g) v ∙ planes.same_length) row_times label_times
      (λ j side. late j (λ e. ⊎_elim (λ h. omega arith) (λ h. omega arith) side.0) side.1
      ∙ planes.kept j (⊎_elim (λ h. inl (omega arith)) (λ h. inr (omega arith)) side.0))

-- ---- two rows exchanged

module _ (m l g k : ℕ) (s t u : List ℕ) (P : ℕ → Pauli) (L : ℕ → Label) (hg : g < m) (hk : k < m) (d : g ≡ k → ⊥) (held : Rowed m l P L s)
    (rows : Exchanged s (row_place l g) (row_place l k) (2 * l + 1) t) (tags : Exchanged t (label_place m l g) (label_place m l k) 2 u) where
  -- the row j of the new words is the row i of the old
  moved_row : (i j : ℕ) → i < m → j < m → ((o : ℕ) → o < 2 * l + 1 → get_or t (row_place l j + o) 0 ≡ get_or s (row_place l i + o) 0) → IsRow l u (row_place l j) (P i)
  moved_row i j hi hj w =
      let fits = row_fits m l j hj in
      same_row l s u (row_place l i) (row_place l j) (P i) (λ o h. tags.kept (row_place l j + o) (inl (omega arith)) (inl (omega arith)) ∙ w o h) (held.row i hi)

  still : (j i : ℕ) → get_or t (label_place m l j + i) 0 ≡ get_or s (label_place m l j + i) 0
  still j i =
      let fg = row_fits m l g hg in
      let fk = row_fits m l k hk in
      rows.kept (label_place m l j + i) (inr (omega arith)) (inr (omega arith))

  moved_label : (i j : ℕ) → i < m → ((o : ℕ) → o < 2 → get_or u (label_place m l j + o) 0 ≡ get_or t (label_place m l i + o) 0) → IsLabel u (label_place m l j) (L i)
  moved_label i j hi w = same_label_lem s u (label_place m l i) (label_place m l j) (L i) (λ o h. w o h ∙ still i o) (held.label i hi)

  apart_labels : (i j o : ℕ) → (i ≡ j → ⊥) → o < 2 → (label_place m l i + o < label_place m l j) ⊎ (label_place m l j + 2 ≤ label_place m l i + o)
  apart_labels i j o e h = ⊎_elim (λ z. inl (omega arith)) (λ z. inr (omega arith)) (labels_apart m l i j e)

  apart_rows : (i j o : ℕ) → (i ≡ j → ⊥) → o < 2 * l + 1 → (row_place l i + o < row_place l j) ⊎ (row_place l j + (2 * l + 1) ≤ row_place l i + o)
  apart_rows i j o e h = ⊎_elim (λ z. inl (omega arith)) (λ z. inr (omega arith)) (rows_apart l i j e)

  -- where each row comes from
  pub swapped_Rowed : Rowed m l (swap_row g k P) (swap_row g k L) u
  unfolding swap_row
  swapped_Rowed = record {
    long = tags.same_length ∙ rows.same_length ∙ held.long;
    row = λ j hj. elim (ℕ_discrete j k) [
      | yes e ↦ subst (λ (i : ℕ). IsRow l u (row_place l i) (put (put P g (P k)) k (P g) i)) (sym e)
          (subst (IsRow l u (row_place l k)) (sym (put_same (put P g (P k)) k (P g))) (moved_row g k hg hk rows.there))
      | no e ↦ subst (IsRow l u (row_place l j)) (sym (put_other (put P g (P k)) k (P g) j e)) (elim (ℕ_discrete j g) [
        | yes f ↦ subst (λ (i : ℕ). IsRow l u (row_place l i) (put P g (P k) i)) (sym f)
            (subst (IsRow l u (row_place l g)) (sym (put_same P g (P k))) (moved_row k g hk hg rows.here))
        | no f ↦ subst (IsRow l u (row_place l j)) (sym (put_other P g (P k) j f))
            (moved_row j j hj hj (λ o h. rows.kept (row_place l j + o) (apart_rows j g o f h) (apart_rows j k o e h)))
      ])
    ];
    label = λ j hj. elim (ℕ_discrete j k) [
      | yes e ↦ subst (λ (i : ℕ). IsLabel u (label_place m l i) (put (put L g (L k)) k (L g) i)) (sym e)
          (subst (IsLabel u (label_place m l k)) (sym (put_same (put L g (L k)) k (L g))) (moved_label g k hg tags.there))
      | no e ↦ subst (IsLabel u (label_place m l j)) (sym (put_other (put L g (L k)) k (L g) j e)) (elim (ℕ_discrete j g) [
        | yes f ↦ subst (λ (i : ℕ). IsLabel u (label_place m l i) (put L g (L k) i)) (sym f)
            (subst (IsLabel u (label_place m l g)) (sym (put_same L g (L k))) (moved_label k g hk tags.here))
        | no f ↦ subst (IsLabel u (label_place m l j)) (sym (put_other L g (L k) j f))
            (moved_label j j hj (λ o h. tags.kept (label_place m l j + o) (apart_labels j g o f h) (apart_labels j k o e h)))
      ])
    ];
  }
