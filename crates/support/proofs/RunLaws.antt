-- A loop that makes a call for each list of the set digits of a word: what is left of it makes the whole. Assumes nothing.
use mathlib.Core.Path.{◌≡◌, refl, sym, subst}
use mathlib.Core.Bool.{true≢false}
use mathlib.Core.List.{List}
use Prim.Native.Nat.{ℕ}
use Rattle.std.specs.Prelude.{Result, Ok, Err, IsOk, IsErr}
use Rattle.model.specs.Pauli.{has}
use Rattle.pauli.specs.declared.corrupt.Corrupt.{Corrupt}
use Rattle.pauli.specs.Digits.{Lowest, Took}
use Rattle.lists.specs.declared.budget.Budget.{Budget}
use Rattle.lists.specs.declared.budget.Scan.{Scan}
use Rattle.lists.specs.declared.budget.Scan.TheVariants.{Clear}
use Rattle.support.specs.Runs.{Each, none, goes, stops, Scans, through, clear, ends}
use Rattle.support.proofs.FamilyLaws.{still_within}

-- ---- calls that write

-- the calls for the digits w from h on, and those before them, are the calls for the digits w₀ from h₀ on
pub record Going (call : ℕ → List ℕ → List ℕ → Result (Unit {0}) Corrupt → Type 0) (w₀ w : ℕ) (h₀ h : List ℕ) : Type 0 where
  pub within : (j : ℕ) → has w j ≡ 1 → has w₀ j ≡ 1
  pub rest : (g : List ℕ) (r : Result (Unit {0}) Corrupt) → Each call w h g r → Each call w₀ h₀ g r

module _ (call : ℕ → List ℕ → List ℕ → Result (Unit {0}) Corrupt → Type 0) where
  pub Going-none : (w₀ w : ℕ) (h : List ℕ) → w ≡ w₀ → Going call w₀ w h h
  Going-none w₀ w h e = record {
    within = λ j o. subst (λ (v : ℕ). has v j ≡ 1) e o;
    rest = λ g r c. subst (λ (v : ℕ). Each call v h g r) e c;
  }

  module _ (w₀ w b : ℕ) (h₀ h : List ℕ) (s : Result (Unit {0}) Corrupt) (m : Going call w₀ w h₀ h) (lo : Lowest w b) where
    pub Going-more : (v : ℕ) (g : List ℕ) → Took w b v → call b h g s → IsOk s → Going call w₀ v h₀ g
    Going-more v g t c o = record {
      within = still_within w₀ w b v t m.within;
      rest = λ k r e. m.rest k r (goes w b v h g k s r lo t o c e);
    }

    pub Going-stops : (g : List ℕ) (r : Result (Unit {0}) Corrupt) → call b h g s → IsErr s → IsErr r → Each call w₀ h₀ g r
    Going-stops g r c es er = m.rest g r (stops w b h g s r lo es er c)

  pub Going-all : (w₀ w : ℕ) (h₀ h : List ℕ) → Going call w₀ w h₀ h → w ≡ 0 → Each call w₀ h₀ h (Ok tt)
  Going-all w₀ w h₀ h m z = m.rest h (Ok tt) (subst (λ (v : ℕ). Each call v h h (Ok tt)) (sym z) (none h))

-- ---- scans

-- there is one error
pub same_error : {A : Type 0} (r s : Result A Corrupt) → IsErr r → IsErr s → r ≡ s
same_error (Ok x) s e f = absurd (true≢false (sym e))
same_error (Err x) (Ok y) e f = absurd (true≢false (sym f))
same_error (Err x) (Err y) e f = refl

pub record Scanning (scan : ℕ → Budget → Result Scan Corrupt → Type 0) (w₀ w : ℕ) (most left : Budget) : Type 0 where
  pub within : (j : ℕ) → has w j ≡ 1 → has w₀ j ≡ 1
  pub rest : (r : Result Scan Corrupt) → Scans scan w left r → Scans scan w₀ most r

module _ (scan : ℕ → Budget → Result Scan Corrupt → Type 0) where
  pub Scanning-none : (w₀ w : ℕ) (left : Budget) → w ≡ w₀ → Scanning scan w₀ w left left
  Scanning-none w₀ w left e = record {
    within = λ j o. subst (λ (v : ℕ). has v j ≡ 1) e o;
    rest = λ r c. subst (λ (v : ℕ). Scans scan v left r) e c;
  }

  module _ (w₀ w b : ℕ) (most left : Budget) (s : Result Scan Corrupt) (m : Scanning scan w₀ w most left) (lo : Lowest w b) (c : scan b left s) where
    pub Scanning-more : (v : ℕ) (now : Budget) → Took w b v → s ≡ Ok (Clear now) → Scanning scan w₀ v most now
    Scanning-more v now t e = record {
      within = still_within w₀ w b v t m.within;
      rest = λ r k. m.rest r (clear w b v left now r lo t (subst (scan b left) e c) k);
    }

    pub Scanning-ends : (r : Result Scan Corrupt) → ((now : Budget) → s ≡ Ok (Clear now) → ⊥) → s ≡ r → Scans scan w₀ most r
    Scanning-ends r n e = m.rest r (ends w b left s r lo n e c)

  pub Scanning-all : (w₀ w : ℕ) (most left : Budget) → Scanning scan w₀ w most left → w ≡ 0 → Scans scan w₀ most (Ok (Clear left))
  Scanning-all w₀ w most left m z = m.rest (Ok (Clear left)) (subst (λ (v : ℕ). Scans scan v left (Ok (Clear left))) (sym z) (through left))
