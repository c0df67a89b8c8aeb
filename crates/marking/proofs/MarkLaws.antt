-- Laws of a mark by its cases: its qubits, and its events recorded one after the other. Assumes nothing.
use mathlib.Core.Path.{◌≡◌, refl, sym, ap, subst}
use mathlib.Core.Bool.{Bool, false}
use mathlib.Core.List.{List, [], ◌∷◌}
use Prim.Native.Nat.{ℕ, ◌<◌}
use native.Mathlib.Omega.{arith}
use lib.ListN.{length}
use Rattle.model.specs.Pauli.{Pauli}
use Rattle.model.specs.Frame.{Rows, x_at, z_at, paulis}
use Rattle.model.specs.Events.{State, event_at, blocker_on}
use Rattle.model.proofs.Good.{Good, AllOk, origin, blocker_ok}
use Rattle.frame.specs.Axes.{axis_of, either}
use Rattle.frame.specs.declared.axes.Basis.TheVariants as basis
use Rattle.frame.specs.declared.axes.Kind.{Kind}
use Rattle.store.specs.Promises.{qubit_number}
use Rattle.store.proofs.SizeLaws.{Three, single_says, triple_says}
use Rattle.marking.specs.Marks.{qubits_of, events_of, rotation_about, blocker_at, products, Records}
use Rattle.marking.specs.declared.events.Mark.{Mark}
use Rattle.marking.specs.declared.events.Mark.TheVariants.{Rotation, Measure, Reset, Ccx, Ccz}
use Rattle.marking.proofs.PutMarks.{Sofar-none, Sofar-more, sofar_fail, sofar_last}

-- ---- the qubits

module _ (n : ℕ) (mark : Mark) (fine : qubit_number n (qubits_of mark) ≡ 0) where
  named : (m : Mark) → mark ≡ m → qubit_number n (qubits_of m) ≡ 0
  named m e = subst (λ (k : Mark). qubit_number n (qubits_of k) ≡ 0) e fine

  pub rotation_in : (kind : Kind) (q tag : ℕ) → mark ≡ Rotation kind q tag → q < n
  unfolding qubits_of
  rotation_in kind q tag e = single_says n q (named (Rotation kind q tag) e)

  pub measure_in : (q : ℕ) → mark ≡ Measure q → q < n
  unfolding qubits_of
  measure_in q e = single_says n q (named (Measure q) e)

  pub reset_in : (q : ℕ) → mark ≡ Reset q → q < n
  unfolding qubits_of
  reset_in q e = single_says n q (named (Reset q) e)

  pub ccx_in : (a b t : ℕ) → mark ≡ Ccx a b t → Three n a b t
  unfolding qubits_of
  ccx_in a b t e = triple_says n a b t (named (Ccx a b t) e)

  pub ccz_in : (a b t : ℕ) → mark ≡ Ccz a b t → Three n a b t
  unfolding qubits_of
  ccz_in a b t e = triple_says n a b t (named (Ccz a b t) e)

-- ---- reset: z[q], then x[q]

module _ (q : ℕ) where
  reset_ok : (m : State) → Good m → AllOk (origin m) m.given.n (events_of (Reset q) m)
  unfolding events_of blocker_on
  reset_ok m g = (
    blocker_ok (origin m) m.given.n (z_at paulis m.frame q) (g.within.all_z q),
    refl,
    (blocker_ok (origin m) m.given.n (x_at paulis m.frame q) (g.within.all_x q), refl, tt),
  )

  reset_long : (m : State) → length (events_of (Reset q) m) ≡ 2
  unfolding events_of
  reset_long m = refl

  first_same : (m v : State) → v.frame ≡ m.frame → blocker_at basis.Z q v ≡ event_at (events_of (Reset q) m) 0 ∷ []
  unfolding events_of blocker_at axis_of either event_at
  first_same m v e = ap (λ (r : Rows Pauli). blocker_on (z_at paulis r q) ∷ []) e

  second_same : (m v : State) → v.frame ≡ m.frame → blocker_at basis.X q v ≡ event_at (events_of (Reset q) m) 1 ∷ []
  unfolding events_of blocker_at axis_of either event_at
  second_same m v e = ap (λ (r : Rows Pauli). blocker_on (x_at paulis r q) ∷ []) e

  module _ (s u : List ℕ) (r : Bool) (first : Records (blocker_at basis.Z q) s r u) where
    pub reset_fail : r ≡ false → Records (events_of (Reset q)) s false u
    reset_fail =
        sofar_fail (events_of (Reset q)) (blocker_at basis.Z q) 0 s s u r reset_ok (λ m. omega (arith, reset_long m)) first_same (Sofar-none (events_of (Reset q)) s) first

    pub reset_both : (v : List ℕ) (b : Bool) → Records (blocker_at basis.X q) u b v → Records (events_of (Reset q)) s b v
    reset_both v b second =
        sofar_last (events_of (Reset q)) (blocker_at basis.X q) 1 s u v b reset_ok (λ m. omega (arith, reset_long m)) second_same
        (Sofar-more (events_of (Reset q)) (blocker_at basis.Z q) 0 s s u r reset_ok (λ m. omega (arith, reset_long m)) first_same (Sofar-none (events_of (Reset q)) s) first) second
        (λ m. sym (reset_long m))

-- ---- the events of a mark

module _ (mark : Mark) (s t : List ℕ) (r : Bool) where
  of : (m : Mark) → mark ≡ m → Records (events_of m) s r t → Records (events_of mark) s r t
  of m e x = subst (λ (k : Mark). Records (events_of k) s r t) (sym e) x

  pub rotation_of_lem : (kind : Kind) (q tag : ℕ) → mark ≡ Rotation kind q tag → Records (rotation_about kind q tag) s r t → Records (events_of mark) s r t
  unfolding events_of rotation_about
  rotation_of_lem kind q tag e x = of (Rotation kind q tag) e x

  pub measure_of : (q : ℕ) → mark ≡ Measure q → Records (blocker_at basis.Z q) s r t → Records (events_of mark) s r t
  unfolding events_of blocker_at axis_of either
  measure_of q e x = of (Measure q) e x

  pub reset_of : (q : ℕ) → mark ≡ Reset q → Records (events_of (Reset q)) s r t → Records (events_of mark) s r t
  reset_of q e x = of (Reset q) e x

  pub ccx_of : (a b k : ℕ) → mark ≡ Ccx a b k → Records (products basis.X a b k) s r t → Records (events_of mark) s r t
  unfolding events_of products axis_of either
  ccx_of a b k e x = of (Ccx a b k) e x

  pub ccz_of : (a b k : ℕ) → mark ≡ Ccz a b k → Records (products basis.Z a b k) s r t → Records (events_of mark) s r t
  unfolding events_of products axis_of either
  ccz_of a b k e x = of (Ccz a b k) e x
