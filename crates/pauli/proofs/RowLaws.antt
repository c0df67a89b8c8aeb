-- Laws of rows that lie in one list: the number at an index, and the product of two rows. Assumes nothing.
use mathlib.Core.Path.{◌≡◌, refl, sym, ap, ap₂, ◌∙◌}
use mathlib.Core.Logic.{◌⊎◌, inl, inr, ⊎_elim}
use mathlib.Core.List.{List}
use Prim.Native.Nat.{ℕ, zero, suc, ◌+◌, ◌-◌, ◌*◌, ◌/◌, ◌%◌, ◌^◌, ◌≤◌, ◌<◌}
use native.Mathlib.Nat.{zero-add, add-zero, add-suc, suc-add, not-suc-le-zero}
use native.Mathlib.Omega.{arith}
use lib.Arith.{digits_div, digits_mod}
use native.Mathlib.Decide.{ℕ_discrete, dec_lt}
use lib.Bits.{bit_and, bit_xor, and_block, and_lt, xor_block}
use lib.ListN.{length, get_or, take, drop, set, length-set, length-drop}
use lib.Seq.{take_all, drop-cons, get_or-set_same, get_or-set_other}
use Rattle.model.specs.Pauli.{Pauli, count}
use Rattle.model.proofs.Counts.{count_zero, count_cat}
use Rattle.pauli.specs.Rows.{value, value_at, x_of, z_of, of_row, Multiplied, Exchanged}

-- ---- the number at an index

-- what `value` reads off the part of n words at a
pub value_part : (s : List ℕ) (n a : ℕ) → a + n ≤ length s → value_at s a n ≡ value (take n (drop a s))
unfolding value value_at
value_part s zero a h = refl
value_part s (suc n) a h =
    ap (λ (m : ℕ). m * 2 ^ 64 + get_or s a 0) (value_part s n (suc a) (omega arith))
    ∙ ap (λ (p : List ℕ). value (take (suc n) p)) (sym (drop-cons s a 0 (omega arith)))

-- and off all words from a on
pub value_rest : (s : List ℕ) (a n : ℕ) → a + n ≡ length s → value_at s a n ≡ value (drop a s)
value_rest s a n e = value_part s n a (omega arith) ∙ ap value (take_all n (drop a s) (simp length-drop (omega arith)))

-- it goes by the words alone
pub value_same : (s t : List ℕ) (n a b : ℕ) → ((i : ℕ) → i < n → get_or t (b + i) 0 ≡ get_or s (a + i) 0) → value_at t b n ≡ value_at s a n
unfolding value_at
value_same s t zero a b h = refl
value_same s t (suc n) a b h =
    ap₂ (λ (m w : ℕ). m * 2 ^ 64 + w)
    (value_same s t n (suc a) (suc b) (λ i g.
    ap (λ (k : ℕ). get_or t k 0) (suc-add b i ∙ sym (add-suc b i)) ∙ h (suc i) (omega arith) ∙ ap (λ (k : ℕ). get_or s k 0) (add-suc a i ∙ sym (suc-add a i))))
    (ap (λ (k : ℕ). get_or t k 0) (sym (add-zero b)) ∙ h 0 (omega arith) ∙ ap (λ (k : ℕ). get_or s k 0) (add-zero a))

-- the words of a plane are the digits of its set: planes that write the same set are the same, word by word
pub value_words : (s t : List ℕ) (n a b : ℕ) → ((i : ℕ) → get_or s i 0 < 2 ^ 64) → ((i : ℕ) → get_or t i 0 < 2 ^ 64) → value_at s a n ≡ value_at t b n
    → (i : ℕ) → i < n → get_or s (a + i) 0 ≡ get_or t (b + i) 0
unfolding value_at
value_words s t zero a b fs ft e i h = absurd (not-suc-le-zero h)
value_words s t (suc n) a b fs ft e zero h =
    ap (λ (k : ℕ). get_or s k 0) (add-zero a) ∙ sym (digits_mod (value_at s (suc a) n) (fs a)) ∙ ap (λ (v : ℕ). v % 2 ^ 64) e
    ∙ digits_mod (value_at t (suc b) n) (ft b) ∙ sym (ap (λ (k : ℕ). get_or t k 0) (add-zero b))
value_words s t (suc n) a b fs ft e (suc i) h =
    let ka : a + suc i ≡ suc a + i = add-suc a i ∙ sym (suc-add a i) in
    let kb : b + suc i ≡ suc b + i = add-suc b i ∙ sym (suc-add b i) in
    let high : value_at s (suc a) n ≡ value_at t (suc b) n =
    sym (digits_div (value_at s (suc a) n) (fs a)) ∙ ap (λ (v : ℕ). v / 2 ^ 64) e ∙ digits_div (value_at t (suc b) n) (ft b) in
    ap (λ (j : ℕ). get_or s j 0) ka ∙ value_words s t n (suc a) (suc b) fs ft high i (omega arith) ∙ sym (ap (λ (j : ℕ). get_or t j 0) kb)

-- so rows of as many words that write the same sets are the same, word by word
pub row_words : (s t : List ℕ) → length s ≡ length t → ((i : ℕ) → get_or s i 0 < 2 ^ 64) → ((i : ℕ) → get_or t i 0 < 2 ^ 64) → of_row 0 s ≡ of_row 0 t
    → (i : ℕ) → i < length s → get_or s i 0 ≡ get_or t i 0
unfolding of_row x_of z_of
row_words s t long fs ft e i h =
    let k : ℕ = length s / 2 in
    let half : length t / 2 ≡ k = ap (λ (n : ℕ). n / 2) (sym long) in
    let x : value_at s 0 k ≡ value_at t 0 k
    = value_part s k 0 (omega arith) ∙ ap (λ (p : Pauli). p.x) e ∙ ap (λ (n : ℕ). value (take n t)) half ∙ sym (value_part t k 0 (omega arith)) in
    let z : value_at s k (length s - k) ≡ value_at t k (length s - k)
    = value_rest s k (length s - k) (omega arith) ∙ ap (λ (p : Pauli). p.z) e ∙ ap (λ (n : ℕ). value (drop n t)) half ∙ sym (value_rest t k (length s - k) (omega arith)) in
    elim (dec_lt i k) [
      | yes q ↦ ap (λ (j : ℕ). get_or s j 0) (sym (zero-add i)) ∙ value_words s t k 0 0 fs ft x i q ∙ ap (λ (j : ℕ). get_or t j 0) (zero-add i)
      | no q ↦
          let m : k + (i - k) ≡ i = omega arith in
          ap (λ (j : ℕ). get_or s j 0) (sym m) ∙ value_words s t (length s - k) k k fs ft z (i - k) (omega arith) ∙ ap (λ (j : ℕ). get_or t j 0) m
    ]

-- the exclusive or of the words from a on and from b on, written from c on
pub value_xor : (s t : List ℕ) (n a b c : ℕ) → ((k : ℕ) → get_or s k 0 < 2 ^ 64) → ((i : ℕ) → i < n → get_or t (c + i) 0 ≡ bit_xor (get_or s (a + i) 0) (get_or s (b + i) 0))
    → value_at t c n ≡ bit_xor (value_at s a n) (value_at s b n)
unfolding value_at
value_xor s t zero a b c w h = refl
value_xor s t (suc n) a b c w h =
    ap₂ (λ (m v : ℕ). m * 2 ^ 64 + v)
    (value_xor s t n (suc a) (suc b) (suc c) w (λ i g.
    ap (λ (k : ℕ). get_or t k 0) (suc-add c i ∙ sym (add-suc c i)) ∙ h (suc i) (omega arith)
    ∙ ap₂ (λ (k m : ℕ). bit_xor (get_or s k 0) (get_or s m 0)) (add-suc a i ∙ sym (suc-add a i)) (add-suc b i ∙ sym (suc-add b i))))
    (ap (λ (k : ℕ). get_or t k 0) (sym (add-zero c)) ∙ h 0 (omega arith) ∙ ap₂ (λ (k m : ℕ). bit_xor (get_or s k 0) (get_or s m 0)) (add-zero a) (add-zero b))
    ∙ sym (xor_block 64 (value_at s (suc a) n) (value_at s (suc b) n) (get_or s a 0) (get_or s b 0) (w a) (w b))

-- ---- the product of two rows

-- the crossings of the n words from a on with those from b on, word by word
pub cross_more : (s : List ℕ) (a b n : ℕ) → get_or s a 0 < 2 ^ 64 → get_or s b 0 < 2 ^ 64
    → count (bit_and (value_at s a (suc n)) (value_at s b (suc n))) ≡ count (bit_and (value_at s (suc a) n) (value_at s (suc b) n)) + count (bit_and (get_or s a 0) (get_or s b 0))
unfolding value_at
cross_more s a b n ha hb =
    ap count (and_block 64 (value_at s (suc a) n) (value_at s (suc b) n) (get_or s a 0) (get_or s b 0) ha hb)
    ∙ count_cat 64 (bit_and (value_at s (suc a) n) (value_at s (suc b) n)) (bit_and (get_or s a 0) (get_or s b 0)) (and_lt 64 (get_or s a 0) (get_or s b 0) ha hb)

-- the same from the word i of both on: where none is passed, one more, and where all are
abbrev pub crossing : (s : List ℕ) (a b n i : ℕ) → ℕ
crossing s a b n i = count (bit_and (value_at s (a + i) (n - i)) (value_at s (b + i) (n - i)))

pub cross_start : (s : List ℕ) (a b n : ℕ) → crossing s a b n 0 ≡ count (bit_and (value_at s a n) (value_at s b n))
cross_start s a b n =
    let e : n - 0 ≡ n = omega arith in
    ap (λ (k : ℕ). count (bit_and (value_at s (a + 0) k) (value_at s (b + 0) k))) e
    ∙ ap₂ (λ (j k : ℕ). count (bit_and (value_at s j n) (value_at s k n))) (add-zero a) (add-zero b)

pub cross_turn : (s : List ℕ) (a b n i : ℕ) → i < n → get_or s (a + i) 0 < 2 ^ 64 → get_or s (b + i) 0 < 2 ^ 64
    → crossing s a b n i ≡ crossing s a b n (i + 1) + count (bit_and (get_or s (a + i) 0) (get_or s (b + i) 0))
cross_turn s a b n i h ha hb =
    let e : n - i ≡ suc (n - (i + 1)) = omega arith in
    let f : suc (a + i) ≡ a + (i + 1) = omega arith in
    let g : suc (b + i) ≡ b + (i + 1) = omega arith in
    ap (λ (k : ℕ). count (bit_and (value_at s (a + i) k) (value_at s (b + i) k))) e ∙ cross_more s (a + i) (b + i) (n - (i + 1)) ha hb
    ∙ ap₂ (λ (j k : ℕ). count (bit_and (value_at s j (n - (i + 1))) (value_at s k (n - (i + 1)))) + count (bit_and (get_or s (a + i) 0) (get_or s (b + i) 0))) f g

pub cross_end : (s : List ℕ) (a b n i : ℕ) → i ≡ n → crossing s a b n i ≡ 0
unfolding value_at
cross_end s a b n i e =
    let none : n - i ≡ 0 = omega arith in
    ap (λ (k : ℕ). count (bit_and (value_at s (a + i) k) (value_at s (b + i) k))) none ∙ count_zero

-- t is s with the first i words of both planes of the row at `at` xored with those of the row at `by`
pub record Halfway (s : List ℕ) (at by l i : ℕ) (t : List ℕ) : Type 0 where
  pub same_length : length t ≡ length s
  pub xs : (k : ℕ) → k < i → get_or t (at + k) 0 ≡ bit_xor (get_or s (at + k) 0) (get_or s (by + k) 0)
  pub zs : (k : ℕ) → k < i → get_or t (at + l + k) 0 ≡ bit_xor (get_or s (at + l + k) 0) (get_or s (by + l + k) 0)
  pub kept : (k : ℕ) → (at ≤ k → at + i ≤ k) → (at + l ≤ k → at + l + i ≤ k) → get_or t k 0 ≡ get_or s k 0

pub Halfway-none : (s : List ℕ) (at by l : ℕ) → Halfway s at by l 0 s
Halfway-none s at by l = record { same_length = refl; xs = (λ k h. absurd (not-suc-le-zero h)); zs = (λ k h. absurd (not-suc-le-zero h)); kept = (λ k h g. refl) }

module _ (s t : List ℕ) (at by l i : ℕ) (ha : at + 2 * l ≤ length s) (hb : by + 2 * l ≤ length s) (apart : (at + 2 * l ≤ by) ⊎ (by + 2 * l ≤ at)) (hi : i < l)
    (m : Halfway s at by l i t) where
  -- the four words that a turn reads are still as they were
  pub x_by : get_or t (by + i) 0 ≡ get_or s (by + i) 0
  x_by = ⊎_elim (λ h. m.kept (by + i) (λ g. omega arith) (λ g. omega arith)) (λ h. m.kept (by + i) (λ g. absurd (omega arith)) (λ g. absurd (omega arith))) apart

  pub z_by : get_or t (by + l + i) 0 ≡ get_or s (by + l + i) 0
  z_by = ⊎_elim (λ h. m.kept (by + l + i) (λ g. omega arith) (λ g. omega arith)) (λ h. m.kept (by + l + i) (λ g. absurd (omega arith)) (λ g. absurd (omega arith))) apart

  pub x_at_lem : get_or t (at + i) 0 ≡ get_or s (at + i) 0
  x_at_lem = m.kept (at + i) (λ g. omega arith) (λ g. absurd (omega arith))

  pub z_at_lem : get_or t (at + l + i) 0 ≡ get_or s (at + l + i) 0
  z_at_lem = m.kept (at + l + i) (λ g. omega arith) (λ g. omega arith)

  -- after both stores, at an index that is neither
  rest_still : (u v k : ℕ) → (k ≡ at + i → ⊥) → (k ≡ at + l + i → ⊥) → get_or (set (set t (at + i) u) (at + l + i) v) k 0 ≡ get_or t k 0
  rest_still u v k f g = get_or-set_other (set t (at + i) u) (at + l + i) k v 0 g ∙ get_or-set_other t (at + i) k u 0 f

  pub Halfway-more : (u v : ℕ) → u ≡ bit_xor (get_or s (at + i) 0) (get_or s (by + i) 0) → v ≡ bit_xor (get_or s (at + l + i) 0) (get_or s (by + l + i) 0)
      → Halfway s at by l (i + 1) (set (set t (at + i) u) (at + l + i) v)
  Halfway-more u v eu ev =
      let n = m.same_length in
      record {
        same_length = length-set (set t (at + i) u) (at + l + i) v ∙ length-set t (at + i) u ∙ n;
        xs = (λ k h. elim (ℕ_discrete k i) [
          | yes e ↦ ap (λ (j : ℕ). get_or (set (set t (at + i) u) (at + l + i) v) (at + j) 0) e ∙ get_or-set_other (set t (at + i) u) (at + l + i) (at + i) v 0 (omega arith)
              ∙ get_or-set_same t (at + i) u 0 (omega arith) ∙ eu ∙ ap (λ (j : ℕ). bit_xor (get_or s (at + j) 0) (get_or s (by + j) 0)) (sym e)
          | no f ↦ rest_still u v (at + k) (omega arith) (omega arith) ∙ m.xs k (omega arith)
        ]);
        zs = (λ k h. elim (ℕ_discrete k i) [
          | yes e ↦ ap (λ (j : ℕ). get_or (set (set t (at + i) u) (at + l + i) v) (at + l + j) 0) e
              ∙ get_or-set_same (set t (at + i) u) (at + l + i) v 0 (omega (arith, length-set t (at + i) u)) ∙ ev
              ∙ ap (λ (j : ℕ). bit_xor (get_or s (at + l + j) 0) (get_or s (by + l + j) 0)) (sym e)
          | no f ↦ rest_still u v (at + l + k) (omega arith) (omega arith) ∙ m.zs k (omega arith)
        ]);
        kept = (λ k h g. rest_still u v k (λ e. omega (arith, h (omega arith))) (λ e. omega (arith, g (omega arith)))
            ∙ m.kept k (λ d. omega (arith, h d)) (λ d. omega (arith, g d)));
      }

-- both planes done
pub Halfway-all : (s t : List ℕ) (at by l : ℕ) → Halfway s at by l l t → Multiplied s at by (2 * l) t
Halfway-all s t at by l m = record {
  same_length = m.same_length;
  changed = (λ i h. go i h (dec_lt i l));
  kept = (λ k h. ⊎_elim (λ g. m.kept k (λ d. absurd (omega arith)) (λ d. absurd (omega arith))) (λ g. m.kept k (λ d. omega arith) (λ d. omega arith)) h);
}
  where
    go : (i : ℕ) → i < 2 * l → Dec (i < l) → get_or t (at + i) 0 ≡ bit_xor (get_or s (at + i) 0) (get_or s (by + i) 0)
    go i h (yes d) = m.xs i d
    go i h (no d) =
        let ea : at + l + (i - l) ≡ at + i = omega arith in
        let eb : by + l + (i - l) ≡ by + i = omega arith in
        ap (λ (k : ℕ). get_or t k 0) (sym ea) ∙ m.zs (i - l) (omega arith) ∙ ap₂ (λ (j k : ℕ). bit_xor (get_or s j 0) (get_or s k 0)) ea eb

-- a plane of the changed row, o words into the row
pub Multiplied-value : (s t : List ℕ) (at by n o l : ℕ) → ((k : ℕ) → get_or s k 0 < 2 ^ 64) → Multiplied s at by n t → o + l ≤ n
    → value_at t (at + o) l ≡ bit_xor (value_at s (at + o) l) (value_at s (by + o) l)
Multiplied-value s t at by n o l w m h =
    value_xor s t l (at + o) (by + o) (at + o) w (λ i g.
    let ea : at + (o + i) ≡ at + o + i = omega arith in
    let eb : by + (o + i) ≡ by + o + i = omega arith in
    ap (λ (k : ℕ). get_or t k 0) (sym ea) ∙ m.changed (o + i) (omega arith) ∙ ap₂ (λ (j k : ℕ). bit_xor (get_or s j 0) (get_or s k 0)) ea eb)

-- words apart from the changed row
pub Multiplied-apart : (s t : List ℕ) (at by n a l : ℕ) → Multiplied s at by n t → (a + l ≤ at) ⊎ (at + n ≤ a) → value_at t a l ≡ value_at s a l
Multiplied-apart s t at by n a l m h =
    value_same s t l a a (λ i g. m.kept (a + i) (⊎_elim (λ k. inl (omega arith)) (λ k. inr (omega arith)) h))

-- ---- the exchange of two rows

pub Exchanged-none : (s : List ℕ) (at by : ℕ) → Exchanged s at by 0 s
Exchanged-none s at by =
    record { same_length = refl; here = λ i h. absurd (not-suc-le-zero h); there = λ i h. absurd (not-suc-le-zero h); kept = λ k h g. refl }

module _ (s t : List ℕ) (at by n i : ℕ) (ha : at + n ≤ length s) (hb : by + n ≤ length s) (apart : (at + n ≤ by) ⊎ (by + n ≤ at)) (hi : i < n)
    (m : Exchanged s at by i t) where
  at_still : get_or t (at + i) 0 ≡ get_or s (at + i) 0
  at_still = m.kept (at + i) (inr (omega arith)) (⊎_elim (λ h. inl (omega arith)) (λ h. inr (omega arith)) apart)

  by_still : get_or t (by + i) 0 ≡ get_or s (by + i) 0
  by_still = m.kept (by + i) (⊎_elim (λ h. inr (omega arith)) (λ h. inl (omega arith)) apart) (inr (omega arith))

  -- the list after both stores, at an index
  both : (a b j : ℕ) → (j ≡ at + i → ⊥) → (j ≡ by + i → ⊥) → get_or (set (set t (at + i) b) (by + i) a) j 0 ≡ get_or t j 0
  both a b j f g = get_or-set_other (set t (at + i) b) (by + i) j a 0 g ∙ get_or-set_other t (at + i) j b 0 f

  pub Exchanged-more : Exchanged s at by (i + 1) (set (set t (at + i) (get_or t (by + i) 0)) (by + i) (get_or t (at + i) 0))
  Exchanged-more =
      let a : ℕ = get_or t (at + i) 0 in
      let b : ℕ = get_or t (by + i) 0 in
      let l = m.same_length in
      let u : List ℕ = set t (at + i) b in
      record {
        same_length = length-set u (by + i) a ∙ length-set t (at + i) b ∙ l;
        here = λ k h. elim (ℕ_discrete k i) [
          | yes e ↦ ap (λ (j : ℕ). get_or (set u (by + i) a) (at + j) 0) e
              ∙ get_or-set_other u (by + i) (at + i) a 0 (⊎_elim (λ g. omega arith) (λ g. omega arith) apart)
              ∙ get_or-set_same t (at + i) b 0 (omega arith) ∙ by_still ∙ ap (λ (j : ℕ). get_or s (by + j) 0) (sym e)
          | no f ↦ both a b (at + k) (omega arith) (⊎_elim (λ g. omega arith) (λ g. omega arith) apart) ∙ m.here k (omega arith)
        ];
        there = λ k h. elim (ℕ_discrete k i) [
          | yes e ↦ ap (λ (j : ℕ). get_or (set u (by + i) a) (by + j) 0) e
              ∙ get_or-set_same u (by + i) a 0 (omega (arith, length-set t (at + i) b)) ∙ at_still ∙ ap (λ (j : ℕ). get_or s (at + j) 0) (sym e)
          | no f ↦ both a b (by + k) (⊎_elim (λ g. omega arith) (λ g. omega arith) apart) (omega arith) ∙ m.there k (omega arith)
        ];
        kept = λ k h g. both a b k (⊎_elim (λ z. omega arith) (λ z. omega arith) h) (⊎_elim (λ z. omega arith) (λ z. omega arith) g)
            ∙ m.kept k (⊎_elim (λ z. inl z) (λ z. inr (omega arith)) h) (⊎_elim (λ z. inl z) (λ z. inr (omega arith)) g);
      }
