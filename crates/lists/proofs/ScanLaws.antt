-- The scan of a scalar list: what the words of an entry say, the first bit that an event shares with the axis, and the walk from an entry on.
-- Assumes nothing.
use Rattle.std.proofs.Common.{IsTrue, ◌↔◌}
use mathlib.Core.Path.{◌≡◌, refl, sym, ap, ap₂, ◌∙◌, subst}
use mathlib.Core.Logic.{◌⊎◌, ⊎_elim}
use mathlib.Core.Bool.{Bool, true, false, cond, not, ◌&&◌, true≢false}
use mathlib.Core.List.{List, [], ◌∷◌, map}
use Prim.Native.Nat.{ℕ, zero, suc, ◌+◌, ◌-◌, ◌*◌, ◌/◌, ◌%◌, ◌^◌, ◌≤◌, ◌<◌, min}
use native.Mathlib.Nat.{mul-le-mul_right, suc-mul, le_trans, le_of_eq, add-sub_cancel_left, not-suc-le-zero, zero-lt-suc, zero-add, pow-suc, mod-lt}
use native.Mathlib.Numerals.{add-one}
use native.Mathlib.Decide.{ℕ_discrete}
use native.Mathlib.Omega.{arith}
use lib.Pow.{pow_pos, pow-lt, shr-shr, ones_lt}
use lib.Bits.{bit_and, and_le_l}
use lib.Dec.{eqb, ltb}
use lib.ListN.{length, get_or, take, drop, length-drop}
use lib.Seq.{length-take-le, take_all, get_or-take, get_or-drop, drop-nil, drop-cons, drop-length, ext_get_or}
use borrow.Author.Tests.{lt-ltb, le-ltb, eq-eqb, ne_eqb}
use Rattle.model.specs.Pauli.{has, count, apart, anti}
use Rattle.model.specs.Frame.{from}
use Rattle.model.specs.Events.{Event, State, keep, some, touches, event_at, live_at}
use Rattle.model.specs.Search.{done, stopped, dry, walk, against, list_at, shared_below, entry, scalar_list}
use Rattle.model.proofs.Digits.{has-lt, has_zero, has-pow, has-pow_other}
use Rattle.model.proofs.Members.{clash, and_both, both_and, keep_yes, keep_no, Mem-some, some-Mem, Mem-from, from-Mem}
use Rattle.pauli.specs.Rows.{value, value_at, x_of, z_of, of_row, touched, signature}
use Rattle.pauli.proofs.Digits.{three, has_past, has_ext, has_min, has-add_same, has-add_other, has_not}
use Rattle.pauli.proofs.RowLaws.{value_part, value_same}
use Rattle.pauli.proofs.Walk.{same?}
use Rattle.pauli.proofs.Words.{x_plane, z_plane}
use Rattle.lists.specs.Lists.{Rises, Splits}
use Rattle.lists.specs.Scans.{steps, scan_of, Scannable, apart_from, Meets}
use Rattle.std.specs.Prelude.{Result, Ok, Err, IsErr}
use Rattle.pauli.specs.declared.corrupt.Corrupt.{Corrupt}
use Rattle.lists.specs.declared.budget.Scan.TheVariants.{Clear, Blocked, Out}

-- ---- the axis of an event, as a part

pub axis_fits : (k n w : ℕ) → k < n → k * w + w ≤ n * w
axis_fits k n w h = le_trans (le_of_eq (sym (suc-mul k w))) (mul-le-mul_right w h)

module _ (h : List ℕ) (at l : ℕ) (fits : at + 2 * l ≤ length h) where
  pub axis_length : length (take (at + 2 * l - at) (drop at h)) ≡ 2 * l
  axis_length =
      let n : at + 2 * l - at ≡ 2 * l = add-sub_cancel_left at (2 * l) in
      length-take-le (at + 2 * l - at) (drop at h) (omega (arith, length-drop at h)) ∙ n

  axis_at : (i : ℕ) → i < 2 * l → get_or (take (at + 2 * l - at) (drop at h)) i 0 ≡ get_or h (at + i) 0
  axis_at i g = get_or-take (at + 2 * l - at) (drop at h) i 0 (omega arith) ∙ get_or-drop at h i 0

  pub axis_x : x_of (take (at + 2 * l - at) (drop at h)) ≡ value_at h at l
  axis_x =
      let p : List ℕ = take (at + 2 * l - at) (drop at h) in
      let n = axis_length in
      x_plane p l n ∙ sym (value_part p l 0 (omega arith)) ∙ value_same h p l at 0 (λ i g. ap (λ (j : ℕ). get_or p j 0) (zero-add i) ∙ axis_at i (omega arith))

  pub axis_z : z_of (take (at + 2 * l - at) (drop at h)) ≡ value_at h (at + l) l
  axis_z =
      let p : List ℕ = take (at + 2 * l - at) (drop at h) in
      let n = axis_length in
      z_plane p l n ∙ ap value (sym (take_all l (drop l p) (omega (arith, length-drop l p)))) ∙ sym (value_part p l l (omega arith))
      ∙ value_same h p l (at + l) l (λ i g.
      let e : at + (l + i) ≡ at + l + i = omega arith in
      axis_at (l + i) (omega arith) ∙ ap (λ (j : ℕ). get_or h j 0) e)

-- ---- what the words of an event say

module _ (h : List ℕ) (sigs axes l events : ℕ) (axis : List ℕ) (wanted this id : ℕ) where
  pub part_fits : id < events → axes + events * (2 * l) ≤ length h → axes + id * (2 * l) + 2 * l ≤ length h
  part_fits g f = omega (arith, axis_fits id events (2 * l) g)

  apart_is : id < events → axes + events * (2 * l) ≤ length h
      → anti (of_row 0 (take (axes + id * (2 * l) + 2 * l - (axes + id * (2 * l))) (drop (axes + id * (2 * l)) h))) (of_row 0 axis) ≡ apart_from h axes l id axis
  unfolding anti of_row apart_from
  apart_is g f =
      ap₂ (λ (x z : ℕ). apart x z (x_of axis) (z_of axis)) (axis_x h (axes + id * (2 * l)) l (part_fits g f)) (axis_z h (axes + id * (2 * l)) l (part_fits g f))

  pub Meets-bad : events ≤ id → Meets h sigs axes l events axis wanted this id (Err (record {}))
  Meets-bad g = record { unknown = λ f. refl; apart = λ f. absurd (omega arith); hit = λ f. absurd (omega arith); past = λ f. absurd (omega arith) }

  pub Meets-apart : id < events → (bit_and (get_or h (sigs + id) 0) wanted ≡ this → ⊥) → Meets h sigs axes l events axis wanted this id (Ok false)
  Meets-apart g d = record { unknown = λ f. absurd (omega arith); apart = λ f e. refl; hit = λ f e. absurd (d e); past = λ f e a. refl }

  pub Meets-asked : (r : Bool) → id < events → axes + events * (2 * l) ≤ length h → bit_and (get_or h (sigs + id) 0) wanted ≡ this
      → (IsTrue r ↔ (anti (of_row 0 (take (axes + id * (2 * l) + 2 * l - (axes + id * (2 * l))) (drop (axes + id * (2 * l)) h))) (of_row 0 axis) ≡ 1))
      → Meets h sigs axes l events axis wanted this id (Ok r)
  Meets-asked true g f e d = record {
    unknown = λ u. absurd (omega arith);
    apart = λ _ a. absurd (a e);
    hit = λ _ _ _. refl;
    past = λ _ _ b. let q : ◌≡◌ {A = ℕ} 0 1 = sym b ∙ sym (apart_is g f) ∙ d.0 refl in absurd (omega arith);
  }
  Meets-asked false g f e d = record {
    unknown = λ u. absurd (omega arith);
    apart = λ _ _. refl;
    hit = λ _ _ b. absurd (true≢false (sym (d.1 (apart_is g f ∙ b))));
    past = λ _ _ _. refl;
  }

-- ---- the digits of a signature

module _ (l x z : ℕ) where
  touched_yes : (k : ℕ) → touches l x z k ≡ true → touched l x z (suc k) ≡ touched l x z k + 2 ^ k
  unfolding touched
  touched_yes k t =
      let e : 1 * 2 ^ k + touched l x z k ≡ touched l x z k + 2 ^ k = omega arith in
      ap (λ (b : Bool). cond b 1 0 * 2 ^ k + touched l x z k) t ∙ e

  touched_no : (k : ℕ) → touches l x z k ≡ false → touched l x z (suc k) ≡ touched l x z k
  unfolding touched
  touched_no k t =
      let e : 0 * 2 ^ k + touched l x z k ≡ touched l x z k = omega arith in
      ap (λ (b : Bool). cond b 1 0 * 2 ^ k + touched l x z k) t ∙ e

  touched-lt : (k : ℕ) → touched l x z k < 2 ^ k
  unfolding touched
  touched-lt zero = zero-lt-suc 0
  touched-lt (suc k) = go (touches l x z k) refl (touched-lt k)
    where
      go : (t : Bool) → touches l x z k ≡ t → touched l x z k < 2 ^ k → touched l x z (suc k) < 2 ^ suc k
      go true t h = omega (arith, touched_yes k t, pow-suc 2 k)
      go false t h = omega (arith, touched_no k t, pow-suc 2 k)

  touched_digit : (k b : ℕ) → b < k → has (touched l x z k) b ≡ cond (touches l x z b) 1 0
  touched_digit zero b g = absurd (not-suc-le-zero g)
  touched_digit (suc k) b g = go (touches l x z k) refl (touched_digit k b)
    where
      none : has (touched l x z k) k ≡ 0
      none = has_past k (touched l x z k) k (touched-lt k) (omega arith)

      flag : (t : Bool) → touches l x z k ≡ t → b ≡ k → ◌≡◌ {A = ℕ} (cond (touches l x z b) 1 0) (cond t 1 0)
      flag t h e = ap (λ (j : ℕ). cond (touches l x z j) 1 0) e ∙ ap (λ (u : Bool). cond u 1 0) h

      go : (t : Bool) → touches l x z k ≡ t → (b < k → has (touched l x z k) b ≡ cond (touches l x z b) 1 0) → has (touched l x z (suc k)) b ≡ cond (touches l x z b) 1 0
      go true t ih =
          ap (λ (n : ℕ). has n b) (touched_yes k t)
          ∙ ⊎_elim
          (λ (e : b ≡ k). ap (λ (j : ℕ). has (touched l x z k + 2 ^ k) j) e ∙ has-add_same (touched l x z k) k none ∙ sym (flag true t e))
          (λ (d : b ≡ k → ⊥). has-add_other (touched l x z k) k b none d ∙ ih (omega arith))
          (same? b k)
      go false t ih =
          ap (λ (n : ℕ). has n b) (touched_no k t)
          ∙ ⊎_elim
          (λ (e : b ≡ k). ap (λ (j : ℕ). has (touched l x z k) j) e ∙ none ∙ sym (flag false t e))
          (λ (d : b ≡ k → ⊥). ih (omega arith))
          (same? b k)

  pub signature-lt : signature l x z < 2 ^ 64
  unfolding signature
  signature-lt = touched-lt 64

  pub signature_digit : (b : ℕ) → b < 64 → has (signature l x z) b ≡ cond (touches l x z b) 1 0
  unfolding signature
  signature_digit b g = touched_digit 64 b g

-- ---- the bits up to one

has_shr : (n m j : ℕ) → has (n / 2 ^ m) j ≡ has n (m + j)
unfolding has
has_shr n m j = ap (λ (w : ℕ). w % 2) (shr-shr n m j)

module _ (b : ℕ) (hb : b < 64) where
  upto_low : (j : ℕ) → j ≤ b → has (((2 ^ 64 - 1) - 0) / 2 ^ (63 - b)) j ≡ 1
  upto_low j g =
      has_shr ((2 ^ 64 - 1) - 0) (63 - b) j
      ∙ omega (arith, has_not 64 0 (63 - b + j) (pow_pos 64) (omega arith), has_zero (63 - b + j))

  upto_high : (j : ℕ) → b < j → has (((2 ^ 64 - 1) - 0) / 2 ^ (63 - b)) j ≡ 0
  upto_high j g = has_shr ((2 ^ 64 - 1) - 0) (63 - b) j ∙ has_past 64 ((2 ^ 64 - 1) - 0) (63 - b + j) (ones_lt 64) (omega arith)

-- ---- the first digit that two words share

module _ (w sig b : ℕ) (hb : b < 64) (small : w < 2 ^ 64) (one : has sig b ≡ 1) where
  shared_digit : (j : ℕ) → has (bit_and w (bit_and sig (((2 ^ 64 - 1) - 0) / 2 ^ (63 - b)))) j
      ≡ min (has w j) (min (has sig j) (has (((2 ^ 64 - 1) - 0) / 2 ^ (63 - b)) j))
  shared_digit j =
      has_min w (bit_and sig (((2 ^ 64 - 1) - 0) / 2 ^ (63 - b))) j ∙ ap (min (has w j)) (has_min sig (((2 ^ 64 - 1) - 0) / 2 ^ (63 - b)) j)

  first_is : has w b ≡ 1 → ((j : ℕ) → j < b → min (has w j) (has sig j) ≡ 0) → bit_and w (bit_and sig (((2 ^ 64 - 1) - 0) / 2 ^ (63 - b))) ≡ 2 ^ b
  first_is h none =
      let v : ℕ = bit_and w (bit_and sig (((2 ^ 64 - 1) - 0) / 2 ^ (63 - b))) in
      let less : bit_and w (bit_and sig (((2 ^ 64 - 1) - 0) / 2 ^ (63 - b))) < 2 ^ 64 = omega (arith, and_le_l w (bit_and sig (((2 ^ 64 - 1) - 0) / 2 ^ (63 - b)))) in
      has_ext 64 v (2 ^ b) less (pow-lt hb)
      (λ i g. shared_digit i ∙ ⊎_elim
      (λ (q : b < i). omega (arith, upto_high b hb i q) ∙ sym (has-pow_other b i (λ e. omega arith)))
      (⊎_elim
      (λ (q : i ≡ b). ap (λ (j : ℕ). min (has w j) (min (has sig j) (has (((2 ^ 64 - 1) - 0) / 2 ^ (63 - b)) j))) q ∙ omega (arith, upto_low b hb b (omega arith), h, one) ∙ sym (has-pow b) ∙ ap (has (2 ^ b)) (sym q))
      (λ (q : i < b). omega (arith, none i q) ∙ sym (has-pow_other b i (λ e. omega arith))))
      (three i b))

  module _ (e : bit_and w (bit_and sig (((2 ^ 64 - 1) - 0) / 2 ^ (63 - b))) ≡ 2 ^ b) where
    first_here : has w b ≡ 1
    first_here =
        let d : has (bit_and w (bit_and sig (((2 ^ 64 - 1) - 0) / 2 ^ (63 - b)))) b ≡ 1 = ap (λ (n : ℕ). has n b) e ∙ has-pow b in
        omega (arith, d, shared_digit b, has-lt w b)

    first_none : (j : ℕ) → j < b → min (has w j) (has sig j) ≡ 0
    first_none j g =
        let d : has (bit_and w (bit_and sig (((2 ^ 64 - 1) - 0) / 2 ^ (63 - b)))) j ≡ 0 = ap (λ (n : ℕ). has n j) e ∙ has-pow_other b j (λ q. omega arith) in
        omega (arith, d, shared_digit j, upto_low b hb j (omega arith), has-lt w j, has-lt sig j)

-- ---- the bits below b that the axis and an event share

module _ (l x z : ℕ) (e : Event) (b : ℕ) where
  none_below : shared_below l x z e b ≡ false → (j : ℕ) → j < b → min (cond (touches l e.x e.z j) 1 0) (cond (touches l x z j) 1 0) ≡ 0
  unfolding shared_below
  none_below h j g = go (touches l e.x e.z j) (touches l x z j) refl refl
    where
      go : (p q : Bool) → touches l e.x e.z j ≡ p → touches l x z j ≡ q → min (cond (touches l e.x e.z j) 1 0) (cond (touches l x z j) 1 0) ≡ 0
      go true true t u =
          clash (some (λ c. touches l x z c && touches l e.x e.z c) (from 0 b))
          (Mem-some (λ c. touches l x z c && touches l e.x e.z c) j (from 0 b) (Mem-from 0 b j (omega arith) (omega arith))
          (both_and (touches l x z j) (touches l e.x e.z j) u t)) h
      go true false t u = ap₂ (λ (p q : Bool). min (cond p 1 0) (cond q 1 0)) t u
      go false true t u = ap₂ (λ (p q : Bool). min (cond p 1 0) (cond q 1 0)) t u
      go false false t u = ap₂ (λ (p q : Bool). min (cond p 1 0) (cond q 1 0)) t u

  below_none : ((j : ℕ) → j < b → min (cond (touches l e.x e.z j) 1 0) (cond (touches l x z j) 1 0) ≡ 0) → shared_below l x z e b ≡ false
  unfolding shared_below
  below_none h = go (some (λ c. touches l x z c && touches l e.x e.z c) (from 0 b)) refl
    where
      go : (t : Bool) → some (λ c. touches l x z c && touches l e.x e.z c) (from 0 b) ≡ t → some (λ c. touches l x z c && touches l e.x e.z c) (from 0 b) ≡ false
      go false t = t
      go true t =
          let m = some-Mem (λ c. touches l x z c && touches l e.x e.z c) (from 0 b) t in
          let k = from-Mem 0 b m.0 m.1 in
          let u = and_both (touches l x z m.0) (touches l e.x e.z m.0) m.2 in
          let q : min (cond true 1 0) (cond true 1 0) ≡ 0 = sym (ap₂ (λ (p q : Bool). min (cond p 1 0) (cond q 1 0)) u.1 u.0) ∙ h m.0 (omega (arith, k.1)) in
          absurd (omega (arith, q))

-- ---- whether an event is tested

-- w is the word of event e's signature, 0 where it is dead
module _ (l x z b : ℕ) (e : Event) (live : Bool) (w sig : ℕ) (word : w ≡ cond live (signature l e.x e.z) 0) (is : sig ≡ signature l x z)
    (hb : b < 64) (one : has sig b ≡ 1) where
  word_lt : w < 2 ^ 64
  word_lt = go live refl
    where
      go : (t : Bool) → live ≡ t → w < 2 ^ 64
      go true t = omega (arith, word ∙ ap (λ (u : Bool). cond u (signature l e.x e.z) 0) t, signature-lt l e.x e.z)
      go false t = omega (arith, word ∙ ap (λ (u : Bool). cond u (signature l e.x e.z) 0) t, pow_pos 64)

  alive_digit : live ≡ true → (j : ℕ) → j < 64 → has w j ≡ cond (touches l e.x e.z j) 1 0
  alive_digit t j g = ap (λ (n : ℕ). has n j) (word ∙ ap (λ (u : Bool). cond u (signature l e.x e.z) 0) t) ∙ signature_digit l e.x e.z j g

  axis_digit : (j : ℕ) → j < 64 → has sig j ≡ cond (touches l x z j) 1 0
  axis_digit j g = ap (λ (n : ℕ). has n j) is ∙ signature_digit l x z j g

  tested_live : bit_and w (bit_and sig (((2 ^ 64 - 1) - 0) / 2 ^ (63 - b))) ≡ 2 ^ b → live ≡ true
  tested_live f = go live refl
    where
      go : (t : Bool) → live ≡ t → live ≡ true
      go true t = t
      go false t = absurd (omega (arith, ap (λ (n : ℕ). has n b) (word ∙ ap (λ (u : Bool). cond u (signature l e.x e.z) 0) t) ∙ has_zero b, first_here w sig b hb word_lt one f))

  tested_first : bit_and w (bit_and sig (((2 ^ 64 - 1) - 0) / 2 ^ (63 - b))) ≡ 2 ^ b → shared_below l x z e b ≡ false
  tested_first f =
      below_none l x z e b (λ j g.
      sym (ap₂ min (alive_digit (tested_live f) j (omega arith)) (axis_digit j (omega arith))) ∙ first_none w sig b hb word_lt one f j g)

  first_tested : live ≡ true → touches l e.x e.z b ≡ true → shared_below l x z e b ≡ false → bit_and w (bit_and sig (((2 ^ 64 - 1) - 0) / 2 ^ (63 - b))) ≡ 2 ^ b
  first_tested t u h =
      first_is w sig b hb word_lt one (alive_digit t b hb ∙ ap (λ (v : Bool). cond v 1 0) u)
      (λ j g. ap₂ min (alive_digit t j (omega arith)) (axis_digit j (omega arith)) ∙ none_below l x z e b h j g)

  -- with a for whether it anticommutes: what the words say is what the search does there
  module _ (a : ℕ) (small : a < 2) (touch : live ≡ true → touches l e.x e.z b ≡ true) (r : Result Bool Corrupt)
      (past : (bit_and w (bit_and sig (((2 ^ 64 - 1) - 0) / 2 ^ (63 - b))) ≡ 2 ^ b → ⊥) → r ≡ Ok false)
      (hit : bit_and w (bit_and sig (((2 ^ 64 - 1) - 0) / 2 ^ (63 - b))) ≡ 2 ^ b → a ≡ 1 → r ≡ Ok true)
      (none : bit_and w (bit_and sig (((2 ^ 64 - 1) - 0) / 2 ^ (63 - b))) ≡ 2 ^ b → a ≡ 0 → r ≡ Ok false) where
    met_stop : r ≡ Ok (not (shared_below l x z e b) && (live && eqb a 1))
    met_stop = elim (ℕ_discrete (bit_and w (bit_and sig (((2 ^ 64 - 1) - 0) / 2 ^ (63 - b)))) (2 ^ b)) [
      | yes f ↦
          ⊎_elim
          (λ (q : a ≡ 1). hit f q ∙ sym (seen f ∙ ap Ok (eq-eqb a 1 q)))
          (λ (q : a ≡ 1 → ⊥). none f (omega arith) ∙ sym (seen f ∙ ap Ok (ne_eqb a 1 q)))
          (same? a 1)
      | no d ↦ past d ∙ sym (unseen d live refl (shared_below l x z e b) refl)
    ]
      where
        seen : bit_and w (bit_and sig (((2 ^ 64 - 1) - 0) / 2 ^ (63 - b))) ≡ 2 ^ b → ◌≡◌ {A = Result Bool Corrupt} (Ok (not (shared_below l x z e b) && (live && eqb a 1))) (Ok (eqb a 1))
        seen f = ap₂ (λ (p q : Bool). Ok (not p && (q && eqb a 1))) (tested_first f) (tested_live f)

        unseen : (bit_and w (bit_and sig (((2 ^ 64 - 1) - 0) / 2 ^ (63 - b))) ≡ 2 ^ b → ⊥) → (p : Bool) → live ≡ p → (q : Bool) → shared_below l x z e b ≡ q
            → ◌≡◌ {A = Result Bool Corrupt} (Ok (not (shared_below l x z e b) && (live && eqb a 1))) (Ok false)
        unseen d p t true h = ap (λ (q : Bool). Ok (not q && (live && eqb a 1))) h
        unseen d false t false h = ap₂ (λ (p q : Bool). Ok (not p && (q && eqb a 1))) h t
        unseen d true t false h = absurd (d (first_tested t (touch t) h))

-- ---- an entry of the list

module _ (s : State) (b l events : ℕ) (h : List ℕ) (base len sigs axes : ℕ) (ok : Scannable s b l events h base len sigs axes) where
  -- the words of the list are the list
  pub list_part : base + len ≤ length h → take (base + len - base) (drop base h) ≡ list_at s b
  list_part f =
      let n : base + len - base ≡ len = add-sub_cancel_left base len in
      let long : length (take (base + len - base) (drop base h)) ≡ len = length-take-le (base + len - base) (drop base h) (omega (arith, length-drop base h)) ∙ n in
      ext_get_or 0 (take (base + len - base) (drop base h)) (list_at s b) (long ∙ sym ok.long)
      (λ i g. get_or-take (base + len - base) (drop base h) i 0 (omega arith) ∙ get_or-drop base h i 0 ∙ ok.numbers i (omega (arith, ok.long)))

  module _ (i id : ℕ) (lt : i < len) (at : id ≡ get_or h (base + i) 0) where
    entry_at : id ≡ get_or (list_at s b) i 0
    entry_at = at ∙ ok.numbers i (omega (arith, ok.long))

    entry_known : id < events
    entry_known = omega (arith, entry_at, ok.known i (omega (arith, ok.long)))

    -- the axis's sets and its signature; what the words say of the entry is what the search does there
    module _ (axis : List ℕ) (sig wanted this : ℕ) (is : sig ≡ signature l (of_row 0 axis).x (of_row 0 axis).z) (hb : b < 64) (one : has sig b ≡ 1)
        (up : wanted ≡ bit_and sig (((2 ^ 64 - 1) - 0) / 2 ^ (63 - b))) (bit : this ≡ 2 ^ b) (r : Result Bool Corrupt) (m : Meets h sigs axes l events axis wanted this id r) where
      pub entry-stops : r ≡ Ok (entry s (of_row 0 axis).x (of_row 0 axis).z b id).stops
      unfolding entry against apart_from apart
      entry-stops =
          let x : ℕ = (of_row 0 axis).x in
          let z : ℕ = (of_row 0 axis).z in
          let e : Event = event_at s.events id in
          let inside : id < length s.events = omega (arith, entry_known, ok.count) in
          let same : apart_from h axes l id axis ≡ apart e.x e.z x z = ap₂ (λ (u v : ℕ). apart u v x z) (ok.axed.xs id inside) (ok.axed.zs id inside) in
          let plain : bit_and (get_or h (sigs + id) 0) wanted ≡ bit_and (get_or h (sigs + id) 0) (bit_and sig (((2 ^ 64 - 1) - 0) / 2 ^ (63 - b))) = ap (bit_and (get_or h (sigs + id) 0)) up in
          met_stop l x z b e (live_at s.events id) (get_or h (sigs + id) 0) sig (ok.signed id inside) is hb one (apart e.x e.z x z) (mod-lt (count (bit_and e.x z) + count (bit_and e.z x)) (zero-lt-suc 1))
          (λ t. ap (λ (j : ℕ). touches l (event_at s.events j).x (event_at s.events j).z b) entry_at
          ∙ ok.touched i (omega (arith, ok.long)) (ap (live_at s.events) (sym entry_at) ∙ t))
          r
          (λ d. m.apart entry_known (λ f. d (sym plain ∙ f ∙ bit)))
          (λ f a. m.hit entry_known (plain ∙ f ∙ sym bit) (same ∙ a))
          (λ f a. m.past entry_known (plain ∙ f ∙ sym bit) (same ∙ a))
          ∙ ap (λ (k : ℕ). Ok (not (shared_below k x z e b) && (live_at s.events id && eqb (apart e.x e.z x z) 1))) (sym ok.planes)

-- ---- the walk

-- the numbers past `a` are those from the place of the first one on
Splits-next : (x a : ℕ) (ids : List ℕ) → Splits (x ∷ ids) a 0 → Splits ids a 0
Splits-next x a ids m = record {
  within = omega arith;
  below = λ k g. absurd (not-suc-le-zero g);
  above = λ k f g. m.above (suc k) (omega arith) (omega arith);
}

Splits-down : (x a r : ℕ) (ids : List ℕ) → Splits (x ∷ ids) a (suc r) → Splits ids a r
Splits-down x a r ids m =
    let w : suc r ≤ suc (length ids) = m.within in
    record {
      within = omega arith;
      below = λ k g. m.below (suc k) (omega arith);
      above = λ k f g. m.above (suc k) (omega arith) (omega arith);
    }

pub keep-Splits : (a r : ℕ) (ids : List ℕ) → Splits ids a r → keep (ltb a) ids ≡ drop r ids
unfolding keep
keep-Splits a r [] m = sym (drop-nil r)
keep-Splits a zero (x ∷ ids) m =
    keep_yes (ltb a) x ids (lt-ltb a x (m.above 0 (omega arith) (zero-lt-suc (length ids)))) ∙ ap (λ (t : List ℕ). x ∷ t) (keep-Splits a 0 ids (Splits-next x a ids m))
keep-Splits a (suc r) (x ∷ ids) m =
    keep_no (ltb a) x ids (le-ltb a x (m.below 0 (zero-lt-suc r))) ∙ keep-Splits a r ids (Splits-down x a r ids m)

module _ (s : State) (x z b id : ℕ) (t : List ℕ) where
  walk_past : (n : ℕ) → 0 < n → (entry s x z b id).stops ≡ false → walk (map (entry s x z b) (id ∷ t)) n ≡ walk (map (entry s x z b) t) (n - 1)
  unfolding walk entry
  walk_past n g e =
      ap (λ (u : Bool). cond u (dry n) (cond (entry s x z b id).stops (stopped id (n - 1)) (walk (map (entry s x z b) t) (n - 1)))) (le-ltb n 1 (omega arith))
      ∙ ap (λ (u : Bool). cond u (stopped id (n - 1)) (walk (map (entry s x z b) t) (n - 1))) e

  walk_stop : (n : ℕ) → 0 < n → (entry s x z b id).stops ≡ true → walk (map (entry s x z b) (id ∷ t)) n ≡ stopped id (n - 1)
  unfolding walk entry
  walk_stop n g e =
      ap (λ (u : Bool). cond u (dry n) (cond (entry s x z b id).stops (stopped id (n - 1)) (walk (map (entry s x z b) t) (n - 1)))) (le-ltb n 1 (omega arith))
      ∙ ap (λ (u : Bool). cond u (stopped id (n - 1)) (walk (map (entry s x z b) t) (n - 1))) e

  walk-dry : walk (map (entry s x z b) (id ∷ t)) 0 ≡ dry 0
  unfolding walk entry
  walk-dry = ap (λ (u : Bool). cond u (dry 0) (cond (entry s x z b id).stops (stopped id (0 - 1)) (walk (map (entry s x z b) t) (0 - 1)))) (lt-ltb 0 1 (omega arith))

walk-done : (n : ℕ) → walk [] n ≡ done n
unfolding walk
walk-done n = refl

list_from : (s : State) (b x z after start left : ℕ) → Splits (list_at s b) after start
    → walk (scalar_list s after x z b) left ≡ walk (map (entry s x z b) (drop start (list_at s b))) left
unfolding scalar_list
list_from s b x z after start left m = ap (λ (t : List ℕ). walk (map (entry s x z b) t) left) (keep-Splits after start (list_at s b) m)

-- an answer is one value alone, and none where it is an error
pub same_answer : {A E : Type 0} (r : Result A E) (x y : A) → r ≡ Ok x → r ≡ Ok y → x ≡ y
same_answer r x y e f = cc

pub answer_not : {A E B : Type 0} (r : Result A E) (x : A) → IsErr r → r ≡ Ok x → B
answer_not (Ok y) x e f = absurd (true≢false (sym e))
answer_not (Err y) x e f = absurd cc

-- up to entry i the walk went on; it goes on to `end` at most, where the allowance or the list ends
pub record Scanning (h : List ℕ) (base len sigs axes l events : ℕ) (axis : List ℕ) (sig bit after start left end i : ℕ) : Type 0 where
  pub order : start ≤ i
  pub within : i ≤ end
  pub most : end ≤ len
  pub spent : end ≤ start + left
  pub short : left < len - start → end ≡ start + left
  pub whole : len - start ≤ left → end ≡ len
  pub walked : (s : State) → Scannable s bit l events h base len sigs axes → sig ≡ signature l (of_row 0 axis).x (of_row 0 axis).z → has sig bit ≡ 1
      → walk (scalar_list s after (of_row 0 axis).x (of_row 0 axis).z bit) left
      ≡ walk (map (entry s (of_row 0 axis).x (of_row 0 axis).z bit) (drop i (list_at s bit))) (left - (i - start))

module _ (h : List ℕ) (base len sigs axes l events : ℕ) (axis : List ℕ) (sig bit after start left end : ℕ) where
  pub Scanning-start : base + len ≤ length h
      → start ≤ length (take (base + len - base) (drop base h)) → (Rises (take (base + len - base) (drop base h)) → Splits (take (base + len - base) (drop base h)) after start)
      → ((left < len - start) × (end ≡ start + left)) ⊎ ((len - start ≤ left) × (end ≡ len))
      → Scanning h base len sigs axes l events axis sig bit after start left end start
  Scanning-start f within splits came =
      let n : base + len - base ≡ len = add-sub_cancel_left base len in
      let long : length (take (base + len - base) (drop base h)) ≡ len = length-take-le (base + len - base) (drop base h) (omega (arith, length-drop base h)) ∙ n in
      let zero_left : left - (start - start) ≡ left = omega arith in
      record {
        order = omega arith;
        within = ⊎_elim (λ (p : (left < len - start) × (end ≡ start + left)). omega (arith, p.1)) (λ (p : (len - start ≤ left) × (end ≡ len)). omega (arith, p.1)) came;
        most = ⊎_elim (λ (p : (left < len - start) × (end ≡ start + left)). omega (arith, p.0, p.1)) (λ (p : (len - start ≤ left) × (end ≡ len)). omega (arith, p.1)) came;
        spent = ⊎_elim (λ (p : (left < len - start) × (end ≡ start + left)). omega (arith, p.1)) (λ (p : (len - start ≤ left) × (end ≡ len)). omega (arith, p.0, p.1)) came;
        short = λ g. ⊎_elim (λ (p : (left < len - start) × (end ≡ start + left)). p.1) (λ (p : (len - start ≤ left) × (end ≡ len)). absurd (omega (arith, p.0))) came;
        whole = λ g. ⊎_elim (λ (p : (left < len - start) × (end ≡ start + left)). absurd (omega (arith, p.0))) (λ (p : (len - start ≤ left) × (end ≡ len)). p.1) came;
        walked = λ s ok is one.
            let e = list_part s bit l events h base len sigs axes ok f in
            let m : Splits (list_at s bit) after start = subst (λ (t : List ℕ). Splits t after start) e (splits (subst Rises (sym e) ok.rises)) in
            scalar_list_is s bit m ∙ ap (walk (map (entry s (of_row 0 axis).x (of_row 0 axis).z bit) (drop start (list_at s bit)))) (sym zero_left);
      }
    where
      scalar_list_is : (s : State) (b : ℕ) → Splits (list_at s b) after start
          → walk (scalar_list s after (of_row 0 axis).x (of_row 0 axis).z b) left ≡ walk (map (entry s (of_row 0 axis).x (of_row 0 axis).z b) (drop start (list_at s b))) left
      scalar_list_is s b m = list_from s b (of_row 0 axis).x (of_row 0 axis).z after start left m

  module _ (i : ℕ) (m : Scanning h base len sigs axes l events axis sig bit after start left end i) where
    -- a turn: entry i is read
    module _ (hb : bit < 64) (g : i < end) (r : Result Bool Corrupt) (wanted this : ℕ) (up : wanted ≡ bit_and sig (((2 ^ 64 - 1) - 0) / 2 ^ (63 - bit))) (one : this ≡ 2 ^ bit)
        (meets : Meets h sigs axes l events axis wanted this (get_or h (base + i) 0) r) where
      module _ (s : State) (ok : Scannable s bit l events h base len sigs axes) (is : sig ≡ signature l (of_row 0 axis).x (of_row 0 axis).z) (set : has sig bit ≡ 1) where
        turn_stops : r ≡ Ok (entry s (of_row 0 axis).x (of_row 0 axis).z bit (get_or (list_at s bit) i 0)).stops
        turn_stops =
            let lt : i < len = omega (arith, m.most) in
            entry-stops s bit l events h base len sigs axes ok i (get_or h (base + i) 0) lt refl axis sig wanted this is hb set up one r meets
            ∙ ap (λ (k : ℕ). Ok (entry s (of_row 0 axis).x (of_row 0 axis).z bit k).stops) (ok.numbers i (omega (arith, ok.long)))

        turn_walk : walk (scalar_list s after (of_row 0 axis).x (of_row 0 axis).z bit) left
            ≡ walk (map (entry s (of_row 0 axis).x (of_row 0 axis).z bit) (get_or (list_at s bit) i 0 ∷ drop (suc i) (list_at s bit))) (left - (i - start))
        turn_walk =
            let lt : i < length (list_at s bit) = omega (arith, m.most, ok.long) in
            m.walked s ok is set ∙ ap (λ (t : List ℕ). walk (map (entry s (of_row 0 axis).x (of_row 0 axis).z bit) t) (left - (i - start))) (drop-cons (list_at s bit) i 0 lt)

      pub Scanning-more : r ≡ Ok false → Scanning h base len sigs axes l events axis sig bit after start left end (i + 1)
      Scanning-more e = record {
        order = omega (arith, m.order);
        within = omega arith;
        most = m.most;
        spent = m.spent;
        short = m.short;
        whole = m.whole;
        walked = λ s ok is set.
            let n : left - (i - start) - 1 ≡ left - (i + 1 - start) = omega (arith, m.order) in
            turn_walk s ok is set
            ∙ walk_past s (of_row 0 axis).x (of_row 0 axis).z bit (get_or (list_at s bit) i 0) (drop (suc i) (list_at s bit)) (left - (i - start)) (omega (arith, m.order, m.spent))
            (same_answer r (entry s (of_row 0 axis).x (of_row 0 axis).z bit (get_or (list_at s bit) i 0)).stops false (turn_stops s ok is set) e)
            ∙ ap₂ (λ (t : List ℕ) (k : ℕ). walk (map (entry s (of_row 0 axis).x (of_row 0 axis).z bit) t) k) (ap (λ (k : ℕ). drop k (list_at s bit)) (sym (add-one i))) n;
      }

      pub scan_hit : r ≡ Ok true → (s : State) → Scannable s bit l events h base len sigs axes → sig ≡ signature l (of_row 0 axis).x (of_row 0 axis).z → has sig bit ≡ 1
          → Blocked (record { 0 = left - (i + 1 - start) }) ≡ scan_of (walk (scalar_list s after (of_row 0 axis).x (of_row 0 axis).z bit) left)
      unfolding scan_of steps
      scan_hit e s ok is set =
          let n : left - (i - start) - 1 ≡ left - (i + 1 - start) = omega (arith, m.order) in
          sym (ap scan_of (turn_walk s ok is set
          ∙ walk_stop s (of_row 0 axis).x (of_row 0 axis).z bit (get_or (list_at s bit) i 0) (drop (suc i) (list_at s bit)) (left - (i - start)) (omega (arith, m.order, m.spent))
          (same_answer r (entry s (of_row 0 axis).x (of_row 0 axis).z bit (get_or (list_at s bit) i 0)).stops true (turn_stops s ok is set) e))
          ∙ ap (λ (k : ℕ). Blocked (steps k)) n)

      pub scan_not_bad : {A : Type 0} → IsErr r → (s : State) → Scannable s bit l events h base len sigs axes → sig ≡ signature l (of_row 0 axis).x (of_row 0 axis).z → has sig bit ≡ 1 → A
      scan_not_bad e s ok is set = answer_not r (entry s (of_row 0 axis).x (of_row 0 axis).z bit (get_or (list_at s bit) i 0)).stops e (turn_stops s ok is set)

    -- the end
    module _ (g : end ≤ i) (s : State) (ok : Scannable s bit l events h base len sigs axes) (is : sig ≡ signature l (of_row 0 axis).x (of_row 0 axis).z) (set : has sig bit ≡ 1) where
      pub scan_out : left < len - start → Out (record { 0 = 0 }) ≡ scan_of (walk (scalar_list s after (of_row 0 axis).x (of_row 0 axis).z bit) left)
      unfolding scan_of steps
      scan_out f =
          let e = m.short f in
          let lt : i < length (list_at s bit) = omega (arith, ok.long, e, m.within, m.order) in
          let n : left - (i - start) ≡ 0 = omega (arith, e, m.within, m.order) in
          sym (ap scan_of (m.walked s ok is set
          ∙ ap₂ (λ (t : List ℕ) (k : ℕ). walk (map (entry s (of_row 0 axis).x (of_row 0 axis).z bit) t) k) (drop-cons (list_at s bit) i 0 lt) n
          ∙ walk-dry s (of_row 0 axis).x (of_row 0 axis).z bit (get_or (list_at s bit) i 0) (drop (suc i) (list_at s bit))))

      pub scan_clear : len - start ≤ left → Clear (record { 0 = left - (len - start) }) ≡ scan_of (walk (scalar_list s after (of_row 0 axis).x (of_row 0 axis).z bit) left)
      unfolding scan_of steps
      scan_clear f =
          let e = m.whole f in
          let q : i ≡ len = omega (arith, e, m.within) in
          let n : left - (i - start) ≡ left - (len - start) = ap (λ (k : ℕ). left - (k - start)) q in
          let none : drop i (list_at s bit) ≡ [] = ap (λ (k : ℕ). drop k (list_at s bit)) (q ∙ sym ok.long) ∙ drop-length (list_at s bit) in
          sym (ap scan_of (m.walked s ok is set
          ∙ ap₂ (λ (t : List ℕ) (k : ℕ). walk (map (entry s (of_row 0 axis).x (of_row 0 axis).z bit) t) k) none n
          ∙ walk-done (left - (len - start))))
