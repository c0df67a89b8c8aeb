-- Laws of the second phase of a look: what a scan finds of the lists that the words hold, in each form. Assumes nothing.
use mathlib.Core.Path.{◌≡◌, refl, sym, ap, ap₂, ◌∙◌, subst}
use mathlib.Core.Bool.{Bool, true, false}
use mathlib.Core.List.{List, [], ◌∷◌}
use Prim.Native.Nat.{ℕ, ◌+◌, ◌*◌, ◌/◌, ◌^◌, ◌≤◌, ◌<◌}
use native.Mathlib.Nat.{zero-mul, zero-add, mul-le-mul_right, div-eq_of_lt}
use native.Mathlib.Omega.{arith}
use lib.Bits.{bit_or, or_lt}
use lib.ListN.{length, get_or, length-map}
use lib.Dec.{eqb}
use borrow.Author.Tests.{eq-eqb}
use Rattle.model.specs.Events as model
use Rattle.model.specs.Events.{State, words, plane, keep, touches, event_at}
use Rattle.model.specs.Search.{walk, phase2, list_at}
use Rattle.model.specs.Store.{list_count}
use Rattle.model.specs.Demands.{Mem, occurs, Listed}
use Rattle.model.proofs.Members.{Mem-keep}
use Rattle.pauli.specs.Rows.{of_row, value_at}
use Rattle.lists.specs.Lists.{Rises, Known}
use Rattle.sliced.specs.Blocks.{entry_of}
use Rattle.lists.specs.Scans.{scan_of, Touched}
use Rattle.support.specs.Families.{AllScannable, AllSliced}
use Rattle.lists.specs.declared.budget.Scan.{Scan}
use Rattle.pauli.specs.declared.corrupt.Corrupt.{Corrupt}
use Rattle.std.proofs.Common.{Result, Ok}
use Rattle.history.specs.declared.forms.Form.{Form}
use Rattle.history.specs.declared.forms.Form.TheVariants.{Scalar, Sliced}
use Rattle.history.specs.Words.{axis_place, sig_place, count_place, list_place, history_room}
use Rattle.history.specs.Sizes.{form_of, Sized, ListsHeld, Scanned}
use Rattle.history.proofs.FormLaws.{get_or-Mem, rises}
use Rattle.history.proofs.AxisWords.{x_value, z_value}

-- ---- lists whose numbers rise, by places

Mem-some : (i : ℕ) (s : List ℕ) → Mem i s → 1 ≤ length s
Mem-some i [] m = absurd m
Mem-some i (a ∷ s) m = omega arith

Mem-occurs : (i : ℕ) (s : List ℕ) → Mem i s → occurs i s ≡ 0 → ⊥
unfolding occurs
Mem-occurs i s m e = omega (arith, Mem-some i (keep (eqb i) s) (Mem-keep (eqb i) i s m (eq-eqb i i refl)))

module _ (m : State) (listed : Listed m) (l : ℕ) (planes : plane m ≡ l) (b : ℕ) where
  pub list_Rises : Rises (list_at m b)
  list_Rises = rises (list_at m b) (listed.rising b)

  pub list_Known : (events : ℕ) → length m.events ≡ events → Known events (list_at m b)
  list_Known events e = λ i h. subst (λ (k : ℕ). get_or (list_at m b) i 0 < k) e (listed.events_only b (get_or (list_at m b) i 0) (get_or-Mem (list_at m b) i h))

  pub list_Touched : Touched l b m.events (list_at m b)
  list_Touched = λ i h live. go i (get_or-Mem (list_at m b) i h) (touches l (event_at m.events (get_or (list_at m b) i 0)).x (event_at m.events (get_or (list_at m b) i 0)).z b) refl
    where
      go : (i : ℕ) → Mem (get_or (list_at m b) i 0) (list_at m b)
          → (t : Bool) → touches l (event_at m.events (get_or (list_at m b) i 0)).x (event_at m.events (get_or (list_at m b) i 0)).z b ≡ t
          → touches l (event_at m.events (get_or (list_at m b) i 0)).x (event_at m.events (get_or (list_at m b) i 0)).z b ≡ true
      go i mem true e = e
      go i mem false e =
          absurd (Mem-occurs (get_or (list_at m b) i 0) (list_at m b) mem
          (listed.nowhere_else b (get_or (list_at m b) i 0)
          (ap (λ (k : ℕ). touches k (event_at m.events (get_or (list_at m b) i 0)).x (event_at m.events (get_or (list_at m b) i 0)).z b) planes ∙ e)))

-- ---- sizes

module _ (f : model.Form) (n cap l : ℕ) (h : List ℕ) (sized : Sized f n cap l h) where
  pub lists_inside : list_place f n cap l ≤ length h
  unfolding history_room
  lists_inside = omega (arith, sized.long)

  pub counts_inside : 2 + 6 * cap + cap * (2 * l) + (cap + 63) / 64 ≤ length h
  unfolding words
  counts_inside = omega (arith, lists_inside)

  pub axes_inside : (events : ℕ) → events ≤ cap → axis_place cap + events * (2 * l) ≤ length h
  axes_inside events le = omega (arith, mul-le-mul_right (2 * l) le, lists_inside)

-- the form that the code has
module _ (n cap l : ℕ) (h : List ℕ) (f : Form) where
  pub held_Scalar : (m : State) → f ≡ Scalar → ListsHeld (form_of f) n cap l m h → ListsHeld model.scalar n cap l m h
  unfolding form_of
  held_Scalar m e p = subst (λ (g : Form). ListsHeld (form_of g) n cap l m h) e p

  pub held_Sliced : (m : State) → f ≡ Sliced → ListsHeld (form_of f) n cap l m h → ListsHeld model.sliced n cap l m h
  unfolding form_of
  held_Sliced m e p = subst (λ (g : Form). ListsHeld (form_of g) n cap l m h) e p

-- ---- what a scan finds

pub all_scannable : (n cap l events : ℕ) (m : State) (h : List ℕ) → ListsHeld model.scalar n cap l m h → Scanned cap l m events h
    → AllScannable m l events h (count_place cap l) (count_place cap l + 128) cap (sig_place cap) (axis_place cap)
unfolding list_count
all_scannable n cap l events m h held s = record {
  form = held.given.form;
  many = held.many;
  count = λ b lt. (held.lists b lt).counts.len;
  within = λ b lt. (held.lists b lt).within;
  each = λ b lt. record {
    count = s.count;
    planes = held.given.planes;
    long = refl;
    numbers = (held.lists b lt).numbers;
    rises = list_Rises m held.listed l held.given.planes b;
    known = list_Known m held.listed l held.given.planes b events s.count;
    touched = list_Touched m held.listed l held.given.planes b;
    signed = s.signed;
    axed = s.axed;
  };
}

pub all_sliced : (n cap l : ℕ) (m : State) (h : List ℕ) → ListsHeld model.sliced n cap l m h → AllSliced m h (count_place cap l) (count_place cap l + 2 * n) cap n
unfolding list_count
all_sliced n cap l m h held = record {
  form = held.given.form;
  qubits = held.given.qubits;
  many = held.many;
  count = λ b lt. (held.lists b lt).counts.len ∙ length-map (list_at m b) (entry_of m.events);
  each = λ b lt. (held.lists b lt).reps;
  rises = λ b lt. list_Rises m held.listed l held.given.planes b;
}

-- ---- an axis of one word for each set

module _ (axis : List ℕ) (l : ℕ) (long : length axis ≡ 2 * l) (one : l ≡ 1) where
  pub narrow_x : (of_row 0 axis).x ≡ get_or axis 0 0
  unfolding value_at
  narrow_x =
      let e : length axis ≡ 2 * 1 = omega arith in
      x_value axis 1 e ∙ ap (λ (k : ℕ). k + get_or axis 0 0) (zero-mul (2 ^ 64)) ∙ zero-add (get_or axis 0 0)

  pub narrow_z : (of_row 0 axis).z ≡ get_or axis 1 0
  unfolding value_at
  narrow_z =
      let e : length axis ≡ 2 * 1 = omega arith in
      z_value axis 1 e ∙ ap (λ (k : ℕ). k + get_or axis 1 0) (zero-mul (2 ^ 64)) ∙ zero-add (get_or axis 1 0)

  -- an axis of n qubits has no digit past them
  pub narrow_small : (n : ℕ) → (of_row 0 axis).x < 2 ^ n → (of_row 0 axis).z < 2 ^ n → bit_or (get_or axis 0 0) (get_or axis 1 0) / 2 ^ n ≡ 0
  narrow_small n x z =
      div-eq_of_lt (or_lt n (get_or axis 0 0) (get_or axis 1 0) (subst (λ (k : ℕ). k < 2 ^ n) narrow_x x) (subst (λ (k : ℕ). k < 2 ^ n) narrow_z z))

  pub narrow_scan : (m : State) (after k : ℕ) (r : Result Scan Corrupt) → r ≡ Ok (scan_of (walk (phase2 m after (get_or axis 0 0) (get_or axis 1 0)) k))
      → r ≡ Ok (scan_of (walk (phase2 m after (of_row 0 axis).x (of_row 0 axis).z) k))
  narrow_scan m after k r e = e ∙ ap₂ (λ (x z : ℕ). Ok (scan_of (walk (phase2 m after x z) k))) (sym narrow_x) (sym narrow_z)
