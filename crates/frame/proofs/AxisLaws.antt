-- Laws of the axes read off a frame's words: the rows and labels of a qubit, rows as parts, and their signs. Assumes nothing.
use mathlib.Core.Path.{◌≡◌, refl, sym, ap, ap₂, ◌∙◌, subst}
use mathlib.Core.Logic.{inl, inr}
use mathlib.Core.List.{List}
use Prim.Native.Nat.{ℕ, zero, suc, ◌+◌, ◌-◌, ◌*◌, ◌%◌, ◌^◌, ◌≤◌, ◌<◌}
use native.Mathlib.Nat.{zero-add, mul_comm, suc-mul, add-sub_cancel_left, not-suc-le-zero}
use native.Mathlib.Numerals.{add-one}
use native.Mathlib.Omega.{arith}
use native.Mathlib.Decide.{ℕ_discrete, dec_lt}
use lib.Bits.{bit_and, bit_xor}
use lib.ListN.{length, get_or, take, drop, set, length-drop, length-set}
use lib.Seq.{get_or-set_same, get_or-set_other, get_or-take, get_or-drop, drop-drop, take_all, length-take-le}
use Rattle.model.specs.Pauli.{Pauli, count, quarter, sign_of, sign, times, shift}
use Rattle.model.specs.Frame.{Rows, x_at, z_at, axis, kind_y, paulis}
use Rattle.model.specs.Sketch.{Label, label_xor, labels}
use Rattle.model.specs.Demands.{IsSign}
use lib.IntN.{ℤ, pos, negsuc}
use Rattle.std.proofs.Common.{Option, Some, None, IfSome}
use Rattle.pauli.specs.Rows.{value, value_at, x_of, z_of, of_row, answer}
use Rattle.pauli.proofs.Words.{rest_part, rest_length, x_plane, z_plane}
use Rattle.pauli.proofs.RowLaws.{value_part, value_xor}
use Rattle.frame.specs.Places.{Sized, row_place, label_place, IsRow, IsLabel, row_of, Held}
use Rattle.frame.specs.Axes.{stride, Reaches, words_of_row, either, axis_of, Both, kind_of, tag_of}
use Rattle.frame.specs.declared.axes.Basis.{Basis}
use Rattle.frame.specs.declared.axes.Basis.TheVariants as basis
use Rattle.frame.specs.declared.axes.Kind.{Kind}
use Rattle.frame.specs.declared.axes.Kind.TheVariants.{X, Y, Z, P}
use Rattle.frame.specs.declared.axes.Tag.{Tag}
use Rattle.frame.proofs.RowedLaws.{at_x, at_z, row_fits, same_row}

-- ---- where the two rows of a qubit lie

pub even_place : (l q : ℕ) → stride l q ≡ row_place l (2 * q)
even_place l q = ap (λ (k : ℕ). k * (2 * l + 1)) (mul_comm q 2)

pub odd_place : (l q : ℕ) → 2 * l + 1 + stride l q ≡ row_place l (2 * q + 1)
odd_place l q =
    let e : stride l q ≡ row_place l (2 * q) = even_place l q in
    let f : row_place l (2 * q + 1) ≡ row_place l (2 * q) + (2 * l + 1) = ap (λ (k : ℕ). k * (2 * l + 1)) (add-one (2 * q)) ∙ suc-mul (2 * q) (2 * l + 1) in
    omega (arith, e, f)

-- a qubit's two rows end within the rows
pub pair_fits : (n l q : ℕ) → q < n → 2 * l + 1 + stride l q + (2 * l + 1) ≤ 2 * n * (2 * l + 1)
pair_fits n l q h =
    let e = odd_place l q in
    omega (arith, e, row_fits (2 * n) l (2 * q + 1) (omega arith))

-- what `&s[2 * l + 1..]` is: the frame from its first Z row on
abbrev pub behind : ℕ → List ℕ → List ℕ
behind w s = take (length s - w) (drop w s)

-- ---- rows as parts

pub words_length : (l q : ℕ) (s : List ℕ) → Reaches l q s → length (words_of_row l q s) ≡ 2 * l + 1
unfolding words_of_row
words_length l q s h = length-take-le (2 * l + 1) (drop (stride l q) s) (omega (arith, length-drop (stride l q) s))

pub words_row : (l q : ℕ) (s t : List ℕ) (a : ℕ) (p : Pauli) → ((i : ℕ) → get_or t (stride l q + i) 0 ≡ get_or s (a + i) 0) → IsRow l s a p → IsRow l (words_of_row l q t) 0 p
unfolding words_of_row
words_row l q s t a p w =
    same_row l s (take (2 * l + 1) (drop (stride l q) t)) a 0 p (λ i h.
    ap (λ (j : ℕ). get_or (take (2 * l + 1) (drop (stride l q) t)) j 0) (zero-add i) ∙ get_or-take (2 * l + 1) (drop (stride l q) t) i 0 h ∙ get_or-drop (stride l q) t i 0 ∙ w i)

module _ (n l q : ℕ) (s : List ℕ) (r : Rows Pauli) (k : Rows Label) (h : q < n) (held : Held n l r k s) where
  pub x_words : IsRow l (words_of_row l q s) 0 (x_at paulis r q)
  x_words =
      subst (IsRow l (words_of_row l q s) 0) (at_x paulis r q)
      (words_row l q s s (row_place l (2 * q)) (row_of paulis r (2 * q)) (λ i. ap (λ (j : ℕ). get_or s (j + i) 0) (even_place l q)) (held.rows.row (2 * q) (omega arith)))

  pub z_words : IsRow l (words_of_row l q (behind (2 * l + 1) s)) 0 (z_at paulis r q)
  z_words =
      subst (IsRow l (words_of_row l q (behind (2 * l + 1) s)) 0) (at_z paulis r q)
      (words_row l q s (behind (2 * l + 1) s) (row_place l (2 * q + 1)) (row_of paulis r (2 * q + 1)) (λ i.
      let e : 2 * l + 1 + (stride l q + i) ≡ row_place l (2 * q + 1) + i = omega (arith, odd_place l q) in
      ap (λ (t : List ℕ). get_or t (stride l q + i) 0) (rest_part s (2 * l + 1)) ∙ get_or-drop (2 * l + 1) s (stride l q + i) 0 ∙ ap (λ (j : ℕ). get_or s j 0) e)
      (held.rows.row (2 * q + 1) (omega arith)))

  pub axis_words_is : (b : Basis) → IsRow l (words_of_row l q (either b s (behind (2 * l + 1) s))) 0 (axis_of b r q)
  unfolding either axis_of
  axis_words_is basis.X = x_words
  axis_words_is basis.Z = z_words

-- the part that the code lends, `&s[at..at + w]`
pub part_words : (l q : ℕ) (s : List ℕ) → take (stride l q + (2 * l + 1) - stride l q) (drop (stride l q) s) ≡ words_of_row l q s
unfolding words_of_row
part_words l q s = ap (λ (k : ℕ). take k (drop (stride l q) s)) (add-sub_cancel_left (stride l q) (2 * l + 1))

pub first_words : (l q : ℕ) (b : Basis) (s t : List ℕ) → b ≡ basis.X → take (stride l q + (2 * l + 1) - stride l q) (drop (stride l q) s) ≡ words_of_row l q (either b s t)
unfolding either
first_words l q b s t e = part_words l q s ∙ sym (ap (λ (c : Basis). words_of_row l q (either c s t)) e)

pub second_words : (l q : ℕ) (b : Basis) (s t : List ℕ) → b ≡ basis.Z → take (stride l q + (2 * l + 1) - stride l q) (drop (stride l q) t) ≡ words_of_row l q (either b s t)
unfolding either
second_words l q b s t e = part_words l q t ∙ sym (ap (λ (c : Basis). words_of_row l q (either c s t)) e)

-- both families reach to every qubit of a frame
pub x_Reaches : (n l q : ℕ) (s : List ℕ) → Sized (2 * n) l s → q < n → Reaches l q s
x_Reaches n l q s e h = omega (arith, pair_fits n l q h)

pub z_Reaches : (n l q : ℕ) (s : List ℕ) → Sized (2 * n) l s → q < n → Reaches l q (behind (2 * l + 1) s)
z_Reaches n l q s e h = omega (arith, pair_fits n l q h, rest_length s (2 * l + 1))

pub either-Reaches : (l q : ℕ) (b : Basis) (s t : List ℕ) → Reaches l q s → Reaches l q t → Reaches l q (either b s t)
unfolding either
either-Reaches l q basis.X s t h g = h
either-Reaches l q basis.Z s t h g = g

-- what `row_of` lends of a frame
module _ (n l q : ℕ) (s w : List ℕ) (b : Basis) (e : Sized (2 * n) l s) (h : q < n) (lent : w ≡ words_of_row l q (either b s (behind (2 * l + 1) s))) where
  pub lent_length : length w ≡ 2 * l + 1
  lent_length =
      ap length lent
      ∙ words_length l q (either b s (behind (2 * l + 1) s)) (either-Reaches l q b s (behind (2 * l + 1) s) (x_Reaches n l q s e h) (z_Reaches n l q s e h))

  pub lent_row : (r : Rows Pauli) (k : Rows Label) → Held n l r k s → IsRow l w 0 (axis_of b r q)
  lent_row r k held = subst (λ (v : List ℕ). IsRow l v 0 (axis_of b r q)) (sym lent) (axis_words_is n l q s r k h held b)

-- ---- signs

-- the planes of the words behind a row's phase
pub x_behind : (l : ℕ) (row : List ℕ) → length row ≡ 2 * l + 1 → x_of (drop 1 row) ≡ value_at row 1 l
x_behind l row e = x_plane (drop 1 row) l (omega (arith, length-drop 1 row)) ∙ sym (value_part row l 1 (omega arith))

pub z_behind : (l : ℕ) (row : List ℕ) → length row ≡ 2 * l + 1 → z_of (drop 1 row) ≡ value_at row (1 + l) l
z_behind l row e =
    z_plane (drop 1 row) l (omega (arith, length-drop 1 row))
    ∙ ap value (drop-drop l 1 row ∙ sym (take_all l (drop (1 + l) row) (omega (arith, length-drop (1 + l) row))))
    ∙ sym (value_part row l (1 + l) (omega arith))

-- they are the row
pub row-behind : (l : ℕ) (row : List ℕ) (p : Pauli) → length row ≡ 2 * l + 1 → IsRow l row 0 p → of_row (get_or row 0 0) (behind 1 row) ≡ p
unfolding of_row
row-behind l row p e r =
    ap (of_row (get_or row 0 0)) (rest_part row 1)
    ∙ ap₂ (λ (a b : ℕ). record { phase = get_or row 0 0; x = a; z = b }) (x_behind l row e ∙ r.x) (z_behind l row e ∙ r.z)
    ∙ ap (λ (a : ℕ). record { phase = a; x = p.x; z = p.z }) r.phase

-- ---- the product of a qubit's rows

-- t has the first i words of both planes
pub record Joining (s : List ℕ) (at by l i : ℕ) (t : List ℕ) : Type 0 where
  pub long : length t ≡ 2 * l + 1
  pub xs : (k : ℕ) → k < i → get_or t (1 + k) 0 ≡ bit_xor (get_or s (at + k) 0) (get_or s (by + k) 0)
  pub zs : (k : ℕ) → k < i → get_or t (1 + l + k) 0 ≡ bit_xor (get_or s (at + l + k) 0) (get_or s (by + l + k) 0)

pub Joining-none : (s t : List ℕ) (at by l : ℕ) → length t ≡ 2 * l + 1 → Joining s at by l 0 t
Joining-none s t at by l e = record { long = e; xs = (λ k h. absurd (not-suc-le-zero h)); zs = (λ k h. absurd (not-suc-le-zero h)) }

pub Joining-more : (s t : List ℕ) (at by l i : ℕ) → i < l → Joining s at by l i t
    → Joining s at by l (i + 1) (set (set t (1 + i) (bit_xor (get_or s (at + i) 0) (get_or s (by + i) 0))) (1 + l + i) (bit_xor (get_or s (at + l + i) 0) (get_or s (by + l + i) 0)))
Joining-more s t at by l i hi m =
    let u : ℕ = bit_xor (get_or s (at + i) 0) (get_or s (by + i) 0) in
    let v : ℕ = bit_xor (get_or s (at + l + i) 0) (get_or s (by + l + i) 0) in
    let n = m.long in
    let one : length (set t (1 + i) u) ≡ length t = length-set t (1 + i) u in
    let still : (k : ℕ) → (k ≡ 1 + i → ⊥) → (k ≡ 1 + l + i → ⊥) → get_or (set (set t (1 + i) u) (1 + l + i) v) k 0 ≡ get_or t k 0
    = λ k f g. get_or-set_other (set t (1 + i) u) (1 + l + i) k v 0 g ∙ get_or-set_other t (1 + i) k u 0 f in
    record {
      long = length-set (set t (1 + i) u) (1 + l + i) v ∙ one ∙ n;
      xs = λ k h. elim (ℕ_discrete k i) [
        | yes e ↦ ap (λ (j : ℕ). get_or (set (set t (1 + i) u) (1 + l + i) v) (1 + j) 0) e ∙ get_or-set_other (set t (1 + i) u) (1 + l + i) (1 + i) v 0 (omega arith)
            ∙ get_or-set_same t (1 + i) u 0 (omega arith) ∙ ap (λ (j : ℕ). bit_xor (get_or s (at + j) 0) (get_or s (by + j) 0)) (sym e)
        | no f ↦ still (1 + k) (omega arith) (omega arith) ∙ m.xs k (omega arith)
      ];
      zs = λ k h. elim (ℕ_discrete k i) [
        | yes e ↦ ap (λ (j : ℕ). get_or (set (set t (1 + i) u) (1 + l + i) v) (1 + l + j) 0) e ∙ get_or-set_same (set t (1 + i) u) (1 + l + i) v 0 (omega (arith, one))
            ∙ ap (λ (j : ℕ). bit_xor (get_or s (at + l + j) 0) (get_or s (by + l + j) 0)) (sym e)
        | no f ↦ still (1 + l + k) (omega arith) (omega arith) ∙ m.zs k (omega arith)
      ];
    }

pub Joining-all : (s t : List ℕ) (at by l i : ℕ) → i ≡ l → Joining s at by l i t → Both s at by (2 * l) t
Joining-all s t at by l i e m = record { long = m.long; word = λ j h. go j h (dec_lt j l) }
  where
    go : (j : ℕ) → j < 2 * l → Dec (j < l) → get_or t (1 + j) 0 ≡ bit_xor (get_or s (at + j) 0) (get_or s (by + j) 0)
    go j h (yes d) = m.xs j (omega arith)
    go j h (no d) =
        let et : 1 + l + (j - l) ≡ 1 + j = omega arith in
        let ea : at + l + (j - l) ≡ at + j = omega arith in
        let eb : by + l + (j - l) ≡ by + j = omega arith in
        ap (λ (k : ℕ). get_or t k 0) (sym et) ∙ m.zs (j - l) (omega arith) ∙ ap₂ (λ (k o : ℕ). bit_xor (get_or s k 0) (get_or s o 0)) ea eb

-- the two rows of a qubit, where the code reads them
module _ (n l q : ℕ) (s : List ℕ) (r : Rows Pauli) (k : Rows Label) (h : q < n) (held : Held n l r k s) where
  pub x_row : IsRow l s (stride l q) (x_at paulis r q)
  x_row =
      subst (λ (a : ℕ). IsRow l s a (x_at paulis r q)) (sym (even_place l q))
      (subst (IsRow l s (row_place l (2 * q))) (at_x paulis r q) (held.rows.row (2 * q) (omega arith)))

  pub z_row : IsRow l s (stride l q + (2 * l + 1)) (z_at paulis r q)
  z_row =
      let e : row_place l (2 * q + 1) ≡ stride l q + (2 * l + 1) = omega (arith, odd_place l q) in
      subst (λ (a : ℕ). IsRow l s a (z_at paulis r q)) e
      (subst (IsRow l s (row_place l (2 * q + 1))) (at_z paulis r q) (held.rows.row (2 * q + 1) (omega arith)))

-- the words written are the product of two rows, with phase + 1
pub Both-row : (l a b odd : ℕ) (s t : List ℕ) (p o : Pauli) → ((i : ℕ) → get_or s i 0 < 2 ^ 64) → IsRow l s a p → IsRow l s b o → Both s (a + 1) (b + 1) (2 * l) t
    → odd ≡ count (bit_and (value_at s (a + 1 + l) l) (value_at s (b + 1) l)) % 2
    → IsRow l (set t 0 ((get_or s a 0 + get_or s b 0 + 2 * odd + 1) % 4)) 0 (shift 1 (times p o))
unfolding shift times
Both-row l a b odd s t p o w ra rb m ho =
    let v : ℕ = (get_or s a 0 + get_or s b 0 + 2 * odd + 1) % 4 in
    let still : (i : ℕ) → get_or (set t 0 v) (1 + i) 0 ≡ get_or t (1 + i) 0 = λ i. get_or-set_other t 0 (1 + i) v 0 (λ e. omega arith) in
    record {
      phase = get_or-set_same t 0 v 0 (omega (arith, m.long))
          ∙ ap₂ (λ (i j : ℕ). (i + j + 2 * odd + 1) % 4) ra.phase rb.phase
          ∙ ap (λ (c : ℕ). (p.phase + o.phase + 2 * c + 1) % 4) (ho ∙ ap₂ (λ (i j : ℕ). count (bit_and i j) % 2) ra.z rb.x)
          ∙ omega arith;
      small = omega arith;
      x = value_xor s (set t 0 v) l (a + 1) (b + 1) 1 w (λ i h. still i ∙ m.word i (omega arith)) ∙ ap₂ bit_xor ra.x rb.x;
      z = value_xor s (set t 0 v) l (a + 1 + l) (b + 1 + l) (1 + l) w (λ i h.
          let et : 1 + l + i ≡ 1 + (l + i) = omega arith in
          let ea : a + 1 + (l + i) ≡ a + 1 + l + i = omega arith in
          let eb : b + 1 + (l + i) ≡ b + 1 + l + i = omega arith in
          ap (λ (j : ℕ). get_or (set t 0 v) j 0) et ∙ still (l + i) ∙ m.word (l + i) (omega arith) ∙ ap₂ (λ (i j : ℕ). bit_xor (get_or s i 0) (get_or s j 0)) ea eb)
          ∙ ap₂ bit_xor ra.z rb.z;
    }

pub y_row : (n l q odd : ℕ) (s t : List ℕ) (r : Rows Pauli) (k : Rows Label) → q < n → ((i : ℕ) → get_or s i 0 < 2 ^ 64) → Held n l r k s
    → Both s (stride l q + 1) (stride l q + (2 * l + 1) + 1) (2 * l) t
    → odd ≡ count (bit_and (value_at s (stride l q + 1 + l) l) (value_at s (stride l q + (2 * l + 1) + 1) l)) % 2
    → IsRow l (set t 0 ((get_or s (stride l q) 0 + get_or s (stride l q + (2 * l + 1)) 0 + 2 * odd + 1) % 4)) 0 (axis paulis kind_y q r)
unfolding axis paulis
y_row n l q odd s t r k h w held m ho =
    Both-row l (stride l q) (stride l q + (2 * l + 1)) odd s t (x_at paulis r q) (z_at paulis r q) w (x_row n l q s r k h held) (z_row n l q s r k h held) m ho

-- ---- labels

module _ (n l q : ℕ) (s : List ℕ) (r : Rows Pauli) (k : Rows Label) (h : q < n) (held : Held n l r k s) where
  pub x_label : IsLabel s (2 * n * (2 * l + 1) + 4 * q) (x_at labels k q)
  x_label =
      let e : label_place (2 * n) l (2 * q) ≡ 2 * n * (2 * l + 1) + 4 * q = omega arith in
      subst (λ (a : ℕ). IsLabel s a (x_at labels k q)) e
      (subst (IsLabel s (label_place (2 * n) l (2 * q))) (at_x labels k q) (held.rows.label (2 * q) (omega arith)))

  pub z_label : IsLabel s (2 * n * (2 * l + 1) + 4 * q + 2) (z_at labels k q)
  z_label =
      let e : label_place (2 * n) l (2 * q + 1) ≡ 2 * n * (2 * l + 1) + 4 * q + 2 = omega arith in
      subst (λ (a : ℕ). IsLabel s a (z_at labels k q)) e
      (subst (IsLabel s (label_place (2 * n) l (2 * q + 1))) (at_z labels k q) (held.rows.label (2 * q + 1) (omega arith)))

-- the words at a place are one label
pub one_label : (s : List ℕ) (a : ℕ) (b c : Label) → IsLabel s a b → IsLabel s a c → b ≡ c
one_label s a b c hb hc = ap₂ (λ (i j : ℕ). record { high = i; low = j }) (sym hb.high ∙ hc.high) (sym hb.low ∙ hc.low)

-- a label as the code reads it
pub read_label : (s : List ℕ) (a : ℕ) → IsLabel s a (tag_of (record { high = get_or s a 0; low = get_or s (a + 1) 0 }))
unfolding tag_of
read_label s a = record { high = refl; low = refl }

pub tag-xor : (t u : Tag) → tag_of (record { high = bit_xor t.high u.high; low = bit_xor t.low u.low }) ≡ label_xor (tag_of t) (tag_of u)
unfolding tag_of label_xor
tag-xor t u = refl

module _ (n l q : ℕ) (s : List ℕ) (r : Rows Pauli) (k : Rows Label) (h : q < n) (held : Held n l r k s) (kind : Kind) where
  pub label_x : (t : Tag) → kind ≡ X → IsLabel s (2 * n * (2 * l + 1) + 4 * q) (tag_of t) → tag_of t ≡ axis labels (kind_of kind) q k
  unfolding axis kind_of
  label_x t e i = one_label s (2 * n * (2 * l + 1) + 4 * q) (tag_of t) (x_at labels k q) i (x_label n l q s r k h held) ∙ sym (ap (λ (m : Kind). axis labels (kind_of m) q k) e)

  -- z and p alike
  pub label_z : (m : Kind) (t : Tag) → axis labels (kind_of m) q k ≡ z_at labels k q → kind ≡ m → IsLabel s (2 * n * (2 * l + 1) + 4 * q + 2) (tag_of t)
      → tag_of t ≡ axis labels (kind_of kind) q k
  label_z m t f e i =
      one_label s (2 * n * (2 * l + 1) + 4 * q + 2) (tag_of t) (z_at labels k q) i (z_label n l q s r k h held) ∙ sym f
      ∙ sym (ap (λ (j : Kind). axis labels (kind_of j) q k) e)

  pub label_y : (t u v : Tag) → kind ≡ Y → IsLabel s (2 * n * (2 * l + 1) + 4 * q) (tag_of t) → IsLabel s (2 * n * (2 * l + 1) + 4 * q + 2) (tag_of u)
      → tag_of v ≡ label_xor (tag_of t) (tag_of u) → tag_of v ≡ axis labels (kind_of kind) q k
  unfolding axis kind_of labels
  label_y t u v e i j d =
      d ∙ ap₂ label_xor
      (one_label s (2 * n * (2 * l + 1) + 4 * q) (tag_of t) (x_at labels k q) i (x_label n l q s r k h held))
      (one_label s (2 * n * (2 * l + 1) + 4 * q + 2) (tag_of u) (z_at labels k q) j (z_label n l q s r k h held))
      ∙ sym (ap (λ (m : Kind). axis labels (kind_of m) q k) e)

-- what is answered for a row's sign is a sign, or that there is none
pub sign_or_none : (p : Pauli) → IfSome (answer (sign p)) IsSign
unfolding sign sign_of answer
sign_or_none p = go (quarter p)
  where
    go : (q : ℕ) → IfSome (answer (sign_of q)) IsSign
    go zero = inl refl
    go (suc zero) = tt
    go (suc (suc zero)) = inr refl
    go (suc (suc (suc q))) = tt

-- where a sign is told it is one, whatever the words are
pub is_signed : (r : Option ℤ) (g : ℤ) → IfSome r IsSign → r ≡ Some g → IsSign g
is_signed r g h e = rw e at h

-- the sign that is told of a row that has one is its sign
pub is_sign : (a g : ℤ) → IsSign a → Some g ≡ answer a → g ≡ a
unfolding answer
is_sign a g (inl e) h = let k : Some g ≡ Some (pos 1) = h ∙ ap answer e in cc
is_sign a g (inr e) h = let k : Some g ≡ Some (negsuc 0) = h ∙ ap answer e in cc

pub some_sign : (a : ℤ) → IsSign a → None ≡ answer a → ⊥
unfolding answer
some_sign a (inl e) h = let k : None ≡ Some (pos 1) = h ∙ ap answer e in let q : ◌≡◌ {A = ℕ} 0 1 = cc in omega (arith, q)
some_sign a (inr e) h = let k : None ≡ Some (negsuc 0) = h ∙ ap answer e in let q : ◌≡◌ {A = ℕ} 0 1 = cc in omega (arith, q)

-- ---- the axis of a kind, where the code found the kind

module _ (kind : Kind) (q l : ℕ) (row : List ℕ) (f : Rows Pauli) where
  pub axis_x : kind ≡ X → IsRow l row 0 (axis_of basis.X f q) → IsRow l row 0 (axis paulis (kind_of kind) q f)
  unfolding axis_of either axis kind_of
  axis_x e i = subst (λ (k : Kind). IsRow l row 0 (axis paulis (kind_of k) q f)) (sym e) i

  pub axis_y : kind ≡ Y → IsRow l row 0 (axis paulis kind_y q f) → IsRow l row 0 (axis paulis (kind_of kind) q f)
  unfolding kind_of
  axis_y e i = subst (λ (k : Kind). IsRow l row 0 (axis paulis (kind_of k) q f)) (sym e) i

  pub axis_z : kind ≡ Z → IsRow l row 0 (axis_of basis.Z f q) → IsRow l row 0 (axis paulis (kind_of kind) q f)
  unfolding axis_of either axis kind_of
  axis_z e i = subst (λ (k : Kind). IsRow l row 0 (axis paulis (kind_of k) q f)) (sym e) i

  pub axis_p : kind ≡ P → IsRow l row 0 (axis_of basis.Z f q) → IsRow l row 0 (axis paulis (kind_of kind) q f)
  unfolding axis_of either axis kind_of
  axis_p e i = subst (λ (k : Kind). IsRow l row 0 (axis paulis (kind_of k) q f)) (sym e) i
