-- A scan of all lists of an axis: a loop over the set digits of a word, lowest first, each turn a walk over the work of one list.
--     Phase-none     where the loop begins
--     Phase-clear    a turn whose walk is done
--     phase_ends     a turn whose walk stops or runs dry: so does the whole
--     Phase-end      where no digit is left, the whole is done
-- Assumes nothing.
use mathlib.Core.Path.{◌≡◌, refl, sym, ap, ◌∙◌, subst}
use mathlib.Core.Logic.{⊎_elim}
use mathlib.Core.Bool.{Bool, true, false, cond, not}
use mathlib.Core.List.{List, [], ◌∷◌, ◌++◌, map}
use Prim.Native.Nat.{ℕ, zero, suc, ◌+◌, ◌-◌, ◌*◌, ◌/◌, ◌%◌, ◌^◌, ◌≤◌, ◌<◌}
use native.Mathlib.Nat.{one-mul, zero-add, zero-div, zero-mod, not-suc-le-zero}
use native.Mathlib.Omega.{arith}
use lib.ListN.{length}
use lib.Dec.{eqb, ltb}
use lib.Bits.{bit_or}
use borrow.Author.Tests.{eq-eqb, ne_eqb}
use Rattle.model.specs.Pauli.{has}
use Rattle.model.specs.Frame.{from}
use Rattle.model.specs.Demands.{Mem}
use Rattle.model.specs.Events.{State, scalar, sliced, words, plane, keep, touches}
use Rattle.model.specs.Search.{Work, Walk, done, stopped, dry, walk, join, list_work, phase2, scalar_list, sliced_list}
use Rattle.model.proofs.Digits.{has-lt, has_zero, on_two_lem}
use Rattle.model.proofs.Members.{keep_yes, keep_no, keep_none, from-Mem}
use Rattle.pauli.specs.Digits.{Lowest, Took}
use Rattle.pauli.specs.Rows.{signature}
use Rattle.pauli.proofs.Digits.{three}
use Rattle.pauli.proofs.Walk.{same?}
use Rattle.lists.specs.Scans.{scan_of, steps}
use Rattle.lists.proofs.ScanLaws.{signature_digit as signature_bit}
use Rattle.lists.specs.declared.budget.Budget.{Budget}
use Rattle.lists.specs.declared.budget.Scan.{Scan}
use Rattle.lists.specs.declared.budget.Scan.TheVariants.{Clear}

-- ---- one walk after another

unfoldable and_then : Walk → List Work → Walk
and_then (done n) vs = walk vs n
and_then (stopped i n) vs = stopped i n
and_then (dry n) vs = dry n

walk-append : (ws vs : List Work) (left : ℕ) → walk (ws ++ vs) left ≡ and_then (walk ws left) vs
unfolding walk and_then
walk-append [] vs left = refl
walk-append (w ∷ ws) vs left = go (ltb left w.cost) w.stops (walk-append ws vs (left - w.cost))
  where
    go : (t b : Bool) → walk (ws ++ vs) (left - w.cost) ≡ and_then (walk ws (left - w.cost)) vs
        → cond t (dry left) (cond b (stopped w.id (left - w.cost)) (walk (ws ++ vs) (left - w.cost))) ≡ and_then (cond t (dry left) (cond b (stopped w.id (left - w.cost)) (walk ws (left - w.cost)))) vs
    go true b h = refl
    go false true h = refl
    go false false h = h

-- ---- the numbers that pass a test

skip : (p : ℕ → Bool) (k c m : ℕ) → ((j : ℕ) → c ≤ j → j < c + k → p j ≡ false) → keep p (from c (m + k)) ≡ keep p (from (c + k) m)
unfolding from
skip p zero c m h =
    let e : m + 0 ≡ m = omega arith in
    let q : c ≡ c + 0 = omega arith in
    ap (λ (i : ℕ). keep p (from c i)) e ∙ ap (λ (i : ℕ). keep p (from i m)) q
skip p (suc k) c m h =
    let q : m + suc k ≡ suc (m + k) = omega arith in
    let e : suc c + k ≡ c + suc k = omega arith in
    ap (λ (i : ℕ). keep p (from c i)) q ∙ keep_no p c (from (suc c) (m + k)) (h c (omega arith) (omega arith)) ∙ skip p k (suc c) m (λ j a b. h j (omega arith) (omega arith)) ∙ ap (λ (i : ℕ). keep p (from i m)) e

-- the first number that passes, and the others
first : (p : ℕ → Bool) (c m b r : ℕ) → c ≤ b → suc b + r ≡ c + m → ((j : ℕ) → c ≤ j → j < b → p j ≡ false) → p b ≡ true → keep p (from c m) ≡ b ∷ keep p (from (suc b) r)
unfolding from
first p c m b r l e non hit =
    let q : m ≡ suc r + (b - c) = omega arith in
    let f : c + (b - c) ≡ b = omega arith in
    ap (λ (i : ℕ). keep p (from c i)) q ∙ skip p (b - c) c (suc r) (λ j a u. non j a (omega arith)) ∙ ap (λ (i : ℕ). keep p (from i (suc r))) f ∙ keep_yes p b (from (suc b) r) hit

-- ---- the loop

-- with the digits of w left to do, and so many steps
pub record Phase (f : ℕ → List Work) (p : ℕ → Bool) (L : ℕ) (whole : Walk) (w left : ℕ) : Type 0 where
  pub start : ℕ
  pub rest : ℕ
  pub sum : start + rest ≡ L
  pub low : (j : ℕ) → j < start → has w j ≡ 0
  pub digits : (j : ℕ) → start ≤ j → j < L → p j ≡ eqb (has w j) 1
  pub same : whole ≡ walk (join (map f (keep p (from start rest)))) left

module _ (f : ℕ → List Work) (p : ℕ → Bool) (L : ℕ) where
  pub Phase-none : (sig left : ℕ) → ((j : ℕ) → j < L → p j ≡ eqb (has sig j) 1) → Phase f p L (walk (join (map f (keep p (from 0 L)))) left) sig left
  Phase-none sig left d = record { start = 0; rest = L; sum = zero-add L; low = λ j l. absurd (not-suc-le-zero l); digits = λ j a l. d j l; same = refl }

  pub Phase-end : (whole : Walk) (left : Budget) → Phase f p L whole 0 left.0 → Clear left ≡ scan_of whole
  unfolding walk join scan_of steps
  Phase-end whole left h =
      ap scan_of (sym (h.same ∙ ap (λ (t : List ℕ). walk (join (map f t)) left.0) (keep_none p (from h.start h.rest) none)))
    where
      none : (i : ℕ) → Mem i (from h.start h.rest) → p i ≡ false
      none i m =
          let b = from-Mem h.start h.rest i m in
          let s = h.sum in
          let z = has_zero i in
          h.digits i b.0 (omega arith) ∙ ne_eqb (has 0 i) 1 (λ o. omega arith)

  module _ (whole : Walk) (w left b : ℕ) (h : Phase f p L whole w left) (lo : Lowest w b) (l : b < L) where
    begun : h.start ≤ b
    begun = ⊎_elim (λ (q : b < h.start). absurd (no q)) (λ r. ⊎_elim (λ (e : h.start ≡ b). omega arith) (λ (q : h.start < b). omega arith) r) (three h.start b)
      where
        no : b < h.start → ⊥
        no q = let z = h.low b q in let o = lo.one in omega arith

    turn : whole ≡ and_then (walk (f b) left) (join (map f (keep p (from (suc b) (L - suc b)))))
    unfolding join
    turn =
        let s = h.sum in
        let e : suc b + (L - suc b) ≡ h.start + h.rest = omega arith in
        h.same ∙ ap (λ (t : List ℕ). walk (join (map f t)) left)
        (first p h.start h.rest b (L - suc b) begun e (λ j a u. h.digits j a (omega arith) ∙ off j u) (h.digits b begun l ∙ eq-eqb (has w b) 1 lo.one))
        ∙ walk-append (f b) (join (map f (keep p (from (suc b) (L - suc b))))) left
      where
        off : (j : ℕ) → j < b → eqb (has w j) 1 ≡ false
        off j u = let z = lo.below j u in ne_eqb (has w j) 1 (λ o. omega arith)

    next : (v n : ℕ) → Took w b v → walk (f b) left ≡ done n → Phase f p L whole v n
    unfolding and_then
    next v n t e = record {
      start = suc b;
      rest = L - suc b;
      sum = omega arith;
      low = lows;
      digits = λ j a u. h.digits j (omega (arith, begun)) u ∙ ap (λ (d : ℕ). eqb d 1) (sym (t.other j (λ q. omega arith)));
      same = turn ∙ ap (λ (x : Walk). and_then x (join (map f (keep p (from (suc b) (L - suc b)))))) e;
    }
      where
        lows : (j : ℕ) → j < suc b → has v j ≡ 0
        lows j u = ⊎_elim (λ (q : j ≡ b). subst (λ (i : ℕ). has v i ≡ 0) (sym q) t.gone) (λ q. t.other j q ∙ lo.below j (less q)) (same? j b)
          where
            less : (j ≡ b → ⊥) → j < b
            less q = ⊎_elim (λ (g : b < j). absurd (omega arith)) (λ r. ⊎_elim (λ (g : j ≡ b). absurd (q g)) (λ (g : j < b). g) r) (three j b)

    pub Phase-clear : (v : ℕ) (now : Budget) → Took w b v → Clear now ≡ scan_of (walk (f b) left) → Phase f p L whole v now.0
    unfolding scan_of steps
    Phase-clear v now t q = go (walk (f b) left) refl q
      where
        go : (x : Walk) → walk (f b) left ≡ x → Clear now ≡ scan_of x → Phase f p L whole v now.0
        go (done n) e q = let r : now ≡ steps n = cc in subst (λ (m : ℕ). Phase f p L whole v m) (sym (ap (λ (c : Budget). c.0) r)) (next v n t e)
        go (stopped i n) e q = let z : ◌≡◌ {A = ℕ} 0 1 = cc in absurd (omega arith)
        go (dry n) e q = let z : ◌≡◌ {A = ℕ} 0 1 = cc in absurd (omega arith)

    -- any other answer is that of the whole
    pub phase_ends : (r : Scan) → ((now : Budget) → r ≡ Clear now → ⊥) → r ≡ scan_of (walk (f b) left) → r ≡ scan_of whole
    unfolding scan_of and_then
    phase_ends r other q = go (walk (f b) left) refl q
      where
        go : (x : Walk) → walk (f b) left ≡ x → r ≡ scan_of x → r ≡ scan_of whole
        go (done n) e q = absurd (other (steps n) q)
        go (stopped i n) e q = q ∙ ap scan_of (sym (turn ∙ ap (λ (x : Walk). and_then x (join (map f (keep p (from (suc b) (L - suc b)))))) e))
        go (dry n) e q = q ∙ ap scan_of (sym (turn ∙ ap (λ (x : Walk). and_then x (join (map f (keep p (from (suc b) (L - suc b)))))) e))

-- ---- the digits of a signature

pub signature_digit : (l x z sig j : ℕ) → sig ≡ signature l x z → j < 64 → touches l x z j ≡ eqb (has sig j) 1
signature_digit l x z sig j e h = go (touches l x z j) (ap (λ (v : ℕ). has v j) e ∙ signature_bit l x z j h)
  where
    go : (t : Bool) → has sig j ≡ cond t 1 0 → t ≡ eqb (has sig j) 1
    go true d = sym (eq-eqb (has sig j) 1 d)
    go false d = sym (ne_eqb (has sig j) 1 (λ q. omega (arith, d, q)))

-- in the sliced form digit q is qubit q
pub qubit_digit : (x z j : ℕ) → touches 1 x z j ≡ eqb (has (bit_or x z) j) 1
unfolding touches has
qubit_digit x z j =
    ap (λ (i : ℕ). not (eqb (bit_or x z / 2 ^ i % 2) 0)) (one-mul j)
    ∙ on_two_lem (λ (d : ℕ). not (eqb d 0) ≡ eqb d 1) refl refl (bit_or x z / 2 ^ j % 2) (has-lt (bit_or x z) j)

-- ---- the work of all lists

module _ (s : State) (after x z : ℕ) where
  pub scalar_phase : (l : ℕ) → s.given.form ≡ scalar → plane s ≡ l → length s.lists ≡ 64
      → phase2 s after x z ≡ join (map (scalar_list s after x z) (keep (touches l x z) (from 0 64)))
  unfolding phase2 list_work
  scalar_phase l f p m = rw (f, p, m)

  pub sliced_phase : (n : ℕ) → s.given.form ≡ sliced → plane s ≡ 1 → length s.lists ≡ n
      → phase2 s after x z ≡ join (map (sliced_list s after x z) (keep (touches 1 x z) (from 0 n)))
  unfolding phase2 list_work
  sliced_phase n f p m = rw (f, p, m)

touches_none : (l x z i : ℕ) → bit_or x z ≡ 0 → touches l x z i ≡ false
unfolding touches
touches_none l x z i e = ap (λ (v : ℕ). not (eqb (v / 2 ^ (l * i) % 2 ^ l) 0)) e ∙ ap (λ (v : ℕ). not (eqb (v % 2 ^ l) 0)) (zero-div (2 ^ (l * i))) ∙ ap (λ (v : ℕ). not (eqb v 0)) (zero-mod (2 ^ l))

-- an axis with no qubit has no list to scan
pub quiet : (s : State) (after x z : ℕ) (left : Budget) → bit_or x z ≡ 0 → Clear left ≡ scan_of (walk (phase2 s after x z) left.0)
unfolding phase2 walk join scan_of steps
quiet s after x z left e =
    ap scan_of (sym (ap (λ (t : List ℕ). walk (join (map (list_work s s.given.form after x z) t)) left.0) (keep_none (touches (plane s) x z) (from 0 (length s.lists)) (λ i m. touches_none (plane s) x z i e))))

-- up to 32 qubits take one word
pub one_plane : (s : State) (n : ℕ) → s.given.n ≡ n → 0 < n → n ≤ 32 → plane s ≡ 1
unfolding words
one_plane s n q l h = omega arith
