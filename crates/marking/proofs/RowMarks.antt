-- Laws of the axes that are recorded: a row copied, rows joined by exclusive or, and the seven products. Assumes nothing.
use mathlib.Core.Path.{◌≡◌, refl, sym, ap, ap₂, ◌∙◌, subst}
use mathlib.Core.Bool.{Bool, true, false, cond}
use mathlib.Core.List.{List}
use Prim.Native.Nat.{ℕ, zero, suc, ◌+◌, ◌*◌, ◌/◌, ◌%◌, ◌^◌, ◌≤◌, ◌<◌}
use native.Mathlib.Nat.{zero-add}
use native.Mathlib.Omega.{arith}
use native.Mathlib.Decide.{ℕ_discrete}
use lib.Bits.{bit_xor, xor_block}
use lib.Dec.{eqb}
use lib.ListN.{length, get_or, set, length-set}
use lib.Seq.{get_or-set_same, get_or-set_other}
use Rattle.model.specs.Pauli.{Pauli, times, plain}
use Rattle.model.specs.Frame.{paulis}
use Rattle.model.specs.Calls.{seven}
use Rattle.pauli.specs.Rows.{value_at}
use Rattle.pauli.specs.Fill.{Written}
use Rattle.frame.specs.Places.{IsRow}
use Rattle.frame.proofs.FreshLaws.{value_none}
use Rattle.frame.proofs.RowedLaws.{same_row}
use Rattle.marking.specs.Axes.{Sets}

-- ---- a row copied

pub copied_row : (l : ℕ) (s row t : List ℕ) (p : Pauli) → length row ≡ 2 * l + 1 → Written s 0 (length row) (λ i. get_or row i 0) t → IsRow l row 0 p → IsRow l t 0 p
copied_row l s row t p e m =
    same_row l row t 0 0 p (λ i h.
    let g : i < length row = omega arith in
    m.here i g ∙ ap (λ (j : ℕ). get_or row j 0) (sym (zero-add i)))

-- ---- rows joined

-- t is s with the words from 1 to below i xored with those of row
pub record Joined (s row : List ℕ) (i : ℕ) (t : List ℕ) : Type 0 where
  pub same_length : length t ≡ length s
  pub left : (k : ℕ) → 1 ≤ k → k < i → get_or s k 0 < 2 ^ 64
  pub right : (k : ℕ) → 1 ≤ k → k < i → get_or row k 0 < 2 ^ 64
  pub word : (k : ℕ) → 1 ≤ k → k < i → get_or t k 0 ≡ bit_xor (get_or s k 0) (get_or row k 0)
  pub rest : (k : ℕ) → i ≤ k → get_or t k 0 ≡ get_or s k 0

pub Joined-none : (s row : List ℕ) → Joined s row 1 s
Joined-none s row = record {
  same_length = refl;
  left = λ k h g. absurd (omega arith);
  right = λ k h g. absurd (omega arith);
  word = λ k h g. absurd (omega arith);
  rest = λ k h. refl;
}

pub Joined-more : (s row t : List ℕ) (i : ℕ) → i < length s → get_or t i 0 < 2 ^ 64 → get_or row i 0 < 2 ^ 64 → Joined s row i t
    → Joined s row (i + 1) (set t i (bit_xor (get_or t i 0) (get_or row i 0)))
Joined-more s row t i hi fs fr m =
    let v : ℕ = bit_xor (get_or t i 0) (get_or row i 0) in
    let n = m.same_length in
    let same : get_or t i 0 ≡ get_or s i 0 = m.rest i (omega arith) in
    record {
      same_length = length-set t i v ∙ n;
      left = λ k h g. elim (ℕ_discrete k i) [
        | yes e ↦ subst (λ (j : ℕ). get_or s j 0 < 2 ^ 64) (sym e) (subst (λ (w : ℕ). w < 2 ^ 64) same fs)
        | no f ↦ m.left k h (omega arith)
      ];
      right = λ k h g. elim (ℕ_discrete k i) [
        | yes e ↦ subst (λ (j : ℕ). get_or row j 0 < 2 ^ 64) (sym e) fr
        | no f ↦ m.right k h (omega arith)
      ];
      word = λ k h g. elim (ℕ_discrete k i) [
        | yes e ↦ ap (λ (j : ℕ). get_or (set t i v) j 0) e ∙ get_or-set_same t i v 0 (omega arith) ∙ ap (λ (w : ℕ). bit_xor w (get_or row i 0)) same
            ∙ ap (λ (j : ℕ). bit_xor (get_or s j 0) (get_or row j 0)) (sym e)
        | no f ↦ get_or-set_other t i k v 0 (λ d. f d) ∙ m.word k h (omega arith)
      ];
      rest = λ k h. get_or-set_other t i k v 0 (λ d. omega arith) ∙ m.rest k (omega arith);
    }

-- the number of the words joined
pub Joined-value : (s row t : List ℕ) (n a i : ℕ) → 1 ≤ a → a + n ≤ i → Joined s row i t → value_at t a n ≡ bit_xor (value_at s a n) (value_at row a n)
unfolding value_at
Joined-value s row t zero a i h g m = refl
Joined-value s row t (suc n) a i h g m =
    ap₂ (λ (u v : ℕ). u * 2 ^ 64 + v) (Joined-value s row t n (suc a) i (omega arith) (omega arith) m) (m.word a h (omega arith))
    ∙ sym (xor_block 64 (value_at s (suc a) n) (value_at row (suc a) n) (get_or s a 0) (get_or row a 0) (m.left a h (omega arith)) (m.right a h (omega arith)))

pub Joined-Sets : (s row t : List ℕ) (on : Bool) (i : ℕ) → on ≡ true → length row ≤ i → Joined s row i t → (l : ℕ) (p q : Pauli) → length row ≡ 2 * l + 1
    → Sets l s p → Sets l row q → Sets l t (cond on (times p q) p)
unfolding times
Joined-Sets s row t on i e h m l p q n hs hr =
    subst (λ (b : Bool). Sets l t (cond b (times p q) p)) (sym e) (record {
      x = Joined-value s row t l 1 i (omega arith) (omega arith) m ∙ ap₂ bit_xor hs.x hr.x;
      z = Joined-value s row t l (1 + l) i (omega arith) (omega arith) m ∙ ap₂ bit_xor hs.z hr.z;
    })

pub left_Sets : (s : List ℕ) (on : Bool) → on ≡ false → (l : ℕ) (p q : Pauli) → Sets l s p → Sets l s (cond on (times p q) p)
left_Sets s on e l p q hs = subst (λ (b : Bool). Sets l s (cond b (times p q) p)) (sym e) hs

-- ---- sets

pub row_Sets : (l : ℕ) (s : List ℕ) (p : Pauli) → IsRow l s 0 p → Sets l s p
row_Sets l s p r = record { x = r.x; z = r.z }

pub Sets-as : (l : ℕ) (s : List ℕ) (p q : Pauli) → p.x ≡ q.x → p.z ≡ q.z → Sets l s p → Sets l s q
Sets-as l s p q ex ez h = record { x = h.x ∙ ex; z = h.z ∙ ez }

pub clear_Sets : (l : ℕ) (s t : List ℕ) → Written s 1 (2 * l) (λ i. 0) t → Sets l t plain
unfolding plain
clear_Sets l s t m = record {
  x = value_none t l 1 (λ i h. m.here i (omega arith));
  z = value_none t l (1 + l) (λ i h.
      let e : 1 + l + i ≡ 1 + (l + i) = omega arith in
      ap (λ (k : ℕ). get_or t k 0) e ∙ m.here (l + i) (omega arith));
}

-- ---- the seven products

-- what the three joins make of the empty set
abbrev pub subset : (i : ℕ) (a b t : Pauli) → Pauli
subset i a b t =
    let p : Pauli = cond (eqb ((i + 1) % 2) 1) (times plain a) plain in
    let q : Pauli = cond (eqb ((i + 1) / 2 % 2) 1) (times p b) p in
    cond (eqb ((i + 1) / 4) 1) (times q t) q

pub subset-Sets : (l : ℕ) (s : List ℕ) (i : ℕ) (a b t : Pauli) → i < 7 → Sets l s (subset i a b t) → Sets l s (get_or (seven a b t) i paulis.unit)
unfolding times plain seven
subset-Sets l s zero a b t h m = Sets-as l s (subset 0 a b t) (a) refl refl m
subset-Sets l s (suc zero) a b t h m = Sets-as l s (subset 1 a b t) (b) refl refl m
subset-Sets l s (suc (suc zero)) a b t h m = Sets-as l s (subset 2 a b t) (times a b) refl refl m
subset-Sets l s (suc (suc (suc zero))) a b t h m = Sets-as l s (subset 3 a b t) (t) refl refl m
subset-Sets l s (suc (suc (suc (suc zero)))) a b t h m = Sets-as l s (subset 4 a b t) (times a t) refl refl m
subset-Sets l s (suc (suc (suc (suc (suc zero))))) a b t h m = Sets-as l s (subset 5 a b t) (times b t) refl refl m
subset-Sets l s (suc (suc (suc (suc (suc (suc zero)))))) a b t h m = Sets-as l s (subset 6 a b t) (times (times a b) t) refl refl m
subset-Sets l s (suc (suc (suc (suc (suc (suc (suc i))))))) a b t h m = absurd (omega arith)

-- what `join` does
abbrev pub Joins : (s row : List ℕ) (on : Bool) (t : List ℕ) → Type 0
Joins s row on t = (l : ℕ) (p q : Pauli) → length row ≡ 2 * l + 1 → Sets l s p → Sets l row q → Sets l t (cond on (times p q) p)

module _ (l i : ℕ) (none : List ℕ) (a b t : Pauli) (h : i < 7) (empty : Sets l none plain) where
  pub product_Sets : (ra rb rt one two three : List ℕ) → length ra ≡ 2 * l + 1 → length rb ≡ 2 * l + 1 → length rt ≡ 2 * l + 1 → IsRow l ra 0 a → IsRow l rb 0 b
      → IsRow l rt 0 t → Joins none ra (eqb ((i + 1) % 2) 1) one → Joins one rb (eqb ((i + 1) / 2 % 2) 1) two → Joins two rt (eqb ((i + 1) / 4) 1) three
      → Sets l three (get_or (seven a b t) i paulis.unit)
  product_Sets ra rb rt one two three la lb lt ia ib it ja jb jt =
      let p : Pauli = cond (eqb ((i + 1) % 2) 1) (times plain a) plain in
      let q : Pauli = cond (eqb ((i + 1) / 2 % 2) 1) (times p b) p in
      subset-Sets l three i a b t h
      (jt l q t lt (jb l p b lb (ja l plain a la empty (row_Sets l ra a ia)) (row_Sets l rb b ib)) (row_Sets l rt t it))
