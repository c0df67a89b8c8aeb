-- Two exits that keep one promise are equal: what a state says of the words on which it relies, and the entry of all others. Assumes nothing.
use mathlib.Core.Path.{◌≡◌, sym, ap, ◌∙◌}
use mathlib.Core.Logic.{inl, inr}
use mathlib.Core.List.{List}
use Prim.Native.Nat.{ℕ, zero, suc, ◌+◌, ◌-◌, ◌^◌, ◌≤◌, ◌<◌}
use native.Mathlib.Omega.{arith}
use native.Mathlib.Decide.{ℕ_discrete, dec_lt}
use lib.ListN.{length, get_or, get_or-eq_default}
use lib.Seq.{ext_get_or}
use Rattle.model.specs.Events.{State, plane}
use Rattle.history.specs.Words.{history_room}
use Rattle.history.proofs.OneHistory.{used_one}
use Rattle.frame.proofs.OneFrame.{held_one}
use Rattle.store.specs.Stores.{part, frame_size, history_place, Stored, Relies, HeldTo}
use Rattle.store.proofs.Splice.{part_length, part_at}
use Rattle.store.proofs.SizeLaws.{Stored-Accepted}
use Rattle.partner.specs.Runs.{Fits64}

-- the words of a part are words of the slice
part_fits : (a k : ℕ) (s : List ℕ) → a + k ≤ length s → Fits64 s → Fits64 (part a k s)
part_fits a k s there f i = go (dec_lt i k)
  where
    go : Dec (i < k) → get_or (part a k s) i 0 < 2 ^ 64
    go (yes b) = omega (arith, part_at a k s there i b, f (a + i))
    go (no b) =
        let e : get_or (part a k s) i 0 ≡ 0 = get_or-eq_default (part a k s) 0 (omega (arith, part_length a k s there)) in
        omega (arith, e)

-- a word of a part, in two slices
part_one : (a k : ℕ) (t u : List ℕ) → a + k ≤ length t → a + k ≤ length u → (i : ℕ) → a ≤ i → i < a + k
    → get_or (part a k t) (i - a) 0 ≡ get_or (part a k u) (i - a) 0 → get_or t i 0 ≡ get_or u i 0
part_one a k t u ht hu i lo hi e =
    let j : ℕ = i - a in
    let b : j < k = omega arith in
    let w : i ≡ a + j = omega arith in
    ap (λ (x : ℕ). get_or t x 0) w ∙ sym (part_at a k t ht j b) ∙ e ∙ part_at a k u hu j b ∙ sym (ap (λ (x : ℕ). get_or u x 0) w)

module _ (m : State) (t u : List ℕ) (ft : Fits64 t) (fu : Fits64 u) (ht : Stored m t) (hu : Stored m u) where
  header_one : (k : ℕ) → k < 5 → get_or t k 0 ≡ get_or u k 0
  header_one zero h = ht.header.size ∙ sym hu.header.size
  header_one (suc zero) h = ht.header.qubits ∙ sym hu.header.qubits
  header_one (suc (suc zero)) h = ht.header.form ∙ sym hu.header.form
  header_one (suc (suc (suc zero))) h = ht.header.capacity ∙ sym hu.header.capacity
  header_one (suc (suc (suc (suc zero)))) h = ht.header.allowance ∙ sym hu.header.allowance
  header_one (suc (suc (suc (suc (suc k))))) h = absurd (omega arith)

  abbrev Place : ℕ
  Place = history_place m.given.n (plane m)

  abbrev Room : ℕ
  Room = history_room m.given.form m.given.n m.given.capacity (plane m)

  ends_t : Place + Room ≤ length t
  ends_t = omega (arith, (Stored-Accepted m t ht).fits, ht.long)

  ends_u : Place + Room ≤ length u
  ends_u = omega (arith, (Stored-Accepted m u hu).fits, hu.long)

  -- a word on which m relies is the same in both
  relied_one : (k : ℕ) → Relies m k → get_or t k 0 ≡ get_or u k 0
  relied_one k (inl h) = header_one k h
  relied_one k (inr (inl h)) =
      let size : ℕ = frame_size m.given.n (plane m) in
      let a : 14 + size ≤ length t = omega (arith, ends_t) in
      let b : 14 + size ≤ length u = omega (arith, ends_u) in
      part_one 14 size t u a b k h.0 h.1
      (ap (λ (x : List ℕ). get_or x (k - 14) 0)
      (held_one (part 14 size t) (part 14 size u) (part_fits 14 size t a ft) (part_fits 14 size u b fu) m.given.n (plane m) m.frame m.sketch ht.frames hu.frames))
  relied_one k (inr (inr (h, w))) =
      part_one Place Room t u ends_t ends_u k h.0 h.1
      (used_one (part Place Room t) (part Place Room u) (part_fits Place Room t ends_t ft) (part_fits Place Room u ends_u fu)
      m.given.form m.given.n m.given.capacity (plane m) m ht.history hu.history (k - Place) w)

-- from the same words to the same state: the same words
pub HeldTo-one : (m : State) (s t u : List ℕ) → Fits64 t → Fits64 u → HeldTo m s t → HeldTo m s u → t ≡ u
HeldTo-one m s t u ft fu a b = ext_get_or 0 t u (a.only.same_length ∙ sym b.only.same_length) (λ k c. each k (ℕ_discrete (get_or t k 0) (get_or u k 0)))
  where
    -- equality of numbers is decided, so it need not be decided whether m relies on the word
    each : (k : ℕ) → Dec (get_or t k 0 ≡ get_or u k 0) → get_or t k 0 ≡ get_or u k 0
    each k (yes e) = e
    each k (no e) =
        let free : Relies m k → ⊥ = λ r. e (relied_one m t u ft fu a.held.stored b.held.stored k r) in
        a.only.kept k free ∙ sym (b.only.kept k free)
