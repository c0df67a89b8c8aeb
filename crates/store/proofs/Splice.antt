-- A slice of which a part was lent and came back changed, as the borrow checker has it: its words, and its parts. Assumes nothing.
use mathlib.Core.Path.{◌≡◌, sym, ap, ◌∙◌}
use mathlib.Core.Logic.{◌⊎◌, inl, inr, ⊎_elim}
use mathlib.Core.List.{List, ◌++◌}
use Prim.Native.Nat.{ℕ, ◌+◌, ◌-◌, ◌≤◌, ◌<◌}
use native.Mathlib.Omega.{arith}
use lib.ListN.{length, get_or, take, drop, length-append, length-drop, get_or-append}
use lib.Seq.{length-take-le, get_or-take, get_or-drop, get_or-append-add, ext_get_or}
use borrow.Rule.Slice.PartMut.{put_same}
use Rattle.store.specs.Stores.{part}

-- t with ys in the place of its k words from a on
abbrev pub splice : (a k : ℕ) → List ℕ → List ℕ → List ℕ
splice a k t ys = take a t ++ (ys ++ drop k (drop a t))

module _ (a k : ℕ) (t : List ℕ) (fits : a + k ≤ length t) where
  pub part_length : length (part a k t) ≡ k
  part_length = length-take-le k (drop a t) (omega (arith, length-drop a t))

  pub part_at : (j : ℕ) → j < k → get_or (part a k t) j 0 ≡ get_or t (a + j) 0
  part_at j l = get_or-take k (drop a t) j 0 l ∙ get_or-drop a t j 0

-- two parts are equal where their words are
pub part_same : (a k : ℕ) (s t : List ℕ) → a + k ≤ length s → a + k ≤ length t → ((i : ℕ) → a ≤ i → i < a + k → get_or t i 0 ≡ get_or s i 0) → part a k t ≡ part a k s
part_same a k s t fits there h =
    let long : length (part a k t) ≡ k = part_length a k t there in
    ext_get_or 0 (part a k t) (part a k s) (long ∙ sym (part_length a k s fits)) (λ i c.
    let c' : i < k = omega (arith, c, long) in
    part_at a k t there i c' ∙ h (a + i) (omega arith) (omega arith) ∙ sym (part_at a k s fits i c'))

module _ (a k : ℕ) (t : List ℕ) (fits : a + k ≤ length t) (ys : List ℕ) (long : length ys ≡ k) where
  front : length (take a t) ≡ a
  front = length-take-le a t (omega arith)

  pub splice-length : length (splice a k t ys) ≡ length t
  splice-length =
      omega (arith, length-append (take a t) (ys ++ drop k (drop a t)), length-append ys (drop k (drop a t)), length-drop k (drop a t), length-drop a t, front, long)

  splice_before : (i : ℕ) → i < a → get_or (splice a k t ys) i 0 ≡ get_or t i 0
  splice_before i l = get_or-append (take a t) (ys ++ drop k (drop a t)) 0 i (omega (arith, front)) ∙ get_or-take a t i 0 l

  pub splice_in : (j : ℕ) → j < k → get_or (splice a k t ys) (a + j) 0 ≡ get_or ys j 0
  splice_in j l =
      ap (λ (n : ℕ). get_or (splice a k t ys) (n + j) 0) (sym front)
      ∙ get_or-append-add (take a t) (ys ++ drop k (drop a t)) j 0 ∙ get_or-append ys (drop k (drop a t)) 0 j (omega (arith, long))

  splice_behind : (j : ℕ) → get_or (splice a k t ys) (a + (k + j)) 0 ≡ get_or t (a + (k + j)) 0
  splice_behind j =
      ap (λ (n : ℕ). get_or (splice a k t ys) (n + (k + j)) 0) (sym front)
      ∙ get_or-append-add (take a t) (ys ++ drop k (drop a t)) (k + j) 0
      ∙ ap (λ (n : ℕ). get_or (ys ++ drop k (drop a t)) (n + j) 0) (sym long)
      ∙ get_or-append-add ys (drop k (drop a t)) j 0 ∙ get_or-drop k (drop a t) j 0 ∙ get_or-drop a t (k + j) 0

  -- outside the part nothing changed
  pub splice_out : (i : ℕ) → (i < a) ⊎ (a + k ≤ i) → get_or (splice a k t ys) i 0 ≡ get_or t i 0
  splice_out i (inl l) = splice_before i l
  splice_out i (inr l) = let e : i ≡ a + (k + (i - (a + k))) = omega arith in rw e (splice_behind (i - (a + k)))

  -- the part is what came back
  pub splice-part : part a k (splice a k t ys) ≡ ys
  splice-part =
      let there : a + k ≤ length (splice a k t ys) = omega (arith, splice-length) in
      let size : length (part a k (splice a k t ys)) ≡ k = part_length a k (splice a k t ys) there in
      ext_get_or 0 (part a k (splice a k t ys)) ys (size ∙ sym long) (λ i c.
      let c' : i < k = omega (arith, c, size) in part_at a k (splice a k t ys) there i c' ∙ splice_in i c')

  -- and another part, before it or behind it, is as it was
  pub splice_other : (b j : ℕ) → b + j ≤ length t → (b + j ≤ a) ⊎ (a + k ≤ b) → part b j (splice a k t ys) ≡ part b j t
  splice_other b j there apart =
      part_same b j t (splice a k t ys) there (omega (arith, splice-length)) (λ i lo hi.
      splice_out i (⊎_elim (λ (q : b + j ≤ a). inl (omega arith)) (λ (q : a + k ≤ b). inr (omega arith)) apart))

-- put back as it was, it gives the slice again
pub splice_same : (a k : ℕ) (t : List ℕ) → splice a k t (part a k t) ≡ t
splice_same a k t = put_same a k t
