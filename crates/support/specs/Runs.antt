-- A call for each list of the set digits of a word, lowest first, where the first answer that is not to go on is the last. Assumes nothing.
use Rattle.std.specs.Prelude.{◌≡◌, ℕ, List, Result, Ok, IsOk, IsErr}
use Rattle.pauli.specs.declared.corrupt.Corrupt.{Corrupt}
use Rattle.pauli.specs.Digits.{Lowest, Took}
use Rattle.lists.specs.declared.budget.Budget.{Budget}
use Rattle.lists.specs.declared.budget.Scan.{Scan}
use Rattle.lists.specs.declared.budget.Scan.TheVariants.{Clear}

-- a call that writes, for each digit of w, from the words h to g: `call b h g r` is that on list b it took the words h to g, with the answer r
pub data Each (call : ℕ → List ℕ → List ℕ → Result (Unit {0}) Corrupt → Type 0) : ℕ → List ℕ → List ℕ → Result (Unit {0}) Corrupt → Type 0 where
  none : (h : List ℕ) → Each call 0 h h (Ok tt)
  goes : (w b v : ℕ) (h m g : List ℕ) (s r : Result (Unit {0}) Corrupt) → Lowest w b → Took w b v → IsOk s → call b h m s → Each call v m g r → Each call w h g r
  stops : (w b : ℕ) (h g : List ℕ) (s r : Result (Unit {0}) Corrupt) → Lowest w b → IsErr s → IsErr r → call b h g s → Each call w h g r

-- a scan of each list of the digits of w, with these steps left: `scan b left r` is the answer r of list b
pub data Scans (scan : ℕ → Budget → Result Scan Corrupt → Type 0) : ℕ → Budget → Result Scan Corrupt → Type 0 where
  through : (left : Budget) → Scans scan 0 left (Ok (Clear left))
  clear : (w b v : ℕ) (left now : Budget) (r : Result Scan Corrupt) → Lowest w b → Took w b v → scan b left (Ok (Clear now)) → Scans scan v now r → Scans scan w left r
  ends : (w b : ℕ) (left : Budget) (s r : Result Scan Corrupt) → Lowest w b → ((now : Budget) → s ≡ Ok (Clear now) → ⊥) → s ≡ r → scan b left s → Scans scan w left r
