-- Laws of axes: a stored one as words and as sets. Assumes nothing.
use Rattle.std.proofs.Common.{IsTrue, ◌↔◌}
use mathlib.Core.Path.{◌≡◌, refl, sym, ap, ap₂, ◌∙◌}
use mathlib.Core.Bool.{Bool, true, false, ◌&&◌, true≢false}
use mathlib.Core.List.{List}
use Prim.Native.Nat.{ℕ, ◌+◌, ◌-◌, ◌*◌, ◌≤◌, ◌<◌}
use native.Mathlib.Nat.{zero-add, suc-mul, mul-le-mul_right}
use native.Mathlib.Omega.{arith}
use lib.ListN.{length, get_or, take, drop, length-drop}
use lib.Seq.{get_or-take, get_or-drop, length-take-le}
use lib.Dec.{eqb}
use borrow.Author.Tests.{eq-eqb, eqb-true}
use Rattle.model.specs.Pauli.{Pauli}
use Rattle.model.specs.Events.{Event}
use Rattle.model.specs.Search.{same_axis}
use Rattle.model.proofs.Members.{and_both}
use Rattle.pauli.specs.Rows.{value_at, of_row}
use Rattle.pauli.proofs.Words.{x_plane, z_plane}
use Rattle.pauli.proofs.RowLaws.{value_part, value_rest, value_same}
use Rattle.history.specs.Words.{axis_place, alive_place}

-- ---- the planes of an axis of 2 l words

module _ (axis : List ℕ) (l : ℕ) (long : length axis ≡ 2 * l) where
  pub x_value : (of_row 0 axis).x ≡ value_at axis 0 l
  unfolding of_row
  x_value = x_plane axis l long ∙ sym (value_part axis l 0 (omega arith))

  pub z_value : (of_row 0 axis).z ≡ value_at axis l l
  unfolding of_row
  z_value =
      z_plane axis l long ∙ sym (value_rest axis l l (omega arith))

-- where the axis of event i stands
pub axis_inside : (cap l i : ℕ) → i < cap → axis_place cap + i * (2 * l) + 2 * l ≤ alive_place cap l
axis_inside cap l i h = omega (arith, suc-mul i (2 * l), mul-le-mul_right (2 * l) h)

-- ---- a stored axis and another, as words and as sets

pub part : (a w : ℕ) (h : List ℕ) (i : ℕ) → i < w → get_or (take (a + w - a) (drop a h)) i 0 ≡ get_or h (a + i) 0
part a w h i l = let e : a + w - a ≡ w = omega arith in ap (λ (n : ℕ). get_or (take n (drop a h)) i 0) e ∙ get_or-take w (drop a h) i 0 l ∙ get_or-drop a h i 0

pub part_long : (a w : ℕ) (h : List ℕ) → a + w ≤ length h → length (take (a + w - a) (drop a h)) ≡ w
part_long a w h le =
    let e : a + w - a ≡ w = omega arith in
    ap (λ (n : ℕ). length (take n (drop a h))) e ∙ length-take-le w (drop a h) (simp length-drop (omega arith))

module _ (h axis : List ℕ) (a l : ℕ) (e : Event) (room : a + 2 * l ≤ length h) (x_set : value_at h a l ≡ e.x) (z_set : value_at h (a + l) l ≡ e.z) where
  part_x : (of_row 0 (take (a + 2 * l - a) (drop a h))).x ≡ value_at h a l
  part_x =
      x_value (take (a + 2 * l - a) (drop a h)) l (part_long a (2 * l) h room)
      ∙ value_same h (take (a + 2 * l - a) (drop a h)) l a 0 (λ i b. ap (λ (k : ℕ). get_or (take (a + 2 * l - a) (drop a h)) k 0) (zero-add i) ∙ part a (2 * l) h i (omega arith))

  part_z : (of_row 0 (take (a + 2 * l - a) (drop a h))).z ≡ value_at h (a + l) l
  part_z =
      z_value (take (a + 2 * l - a) (drop a h)) l (part_long a (2 * l) h room)
      ∙ value_same h (take (a + 2 * l - a) (drop a h)) l (a + l) l (λ i b. part a (2 * l) h (l + i) (omega arith) ∙ ap (λ (k : ℕ). get_or h k 0) (omega arith))

  row_of : (of_row 0 (take (a + 2 * l - a) (drop a h))).x ≡ (of_row 0 axis).x → (of_row 0 (take (a + 2 * l - a) (drop a h))).z ≡ (of_row 0 axis).z
      → of_row 0 (take (a + 2 * l - a) (drop a h)) ≡ of_row 0 axis
  unfolding of_row
  row_of x z = ap₂ (λ (u v : ℕ). record { phase = 0; x = u; z = v }) x z

  -- the code's comparison is that of the sets
  pub axis_compared : (r : Bool) → (IsTrue r ↔ (of_row 0 (take (a + 2 * l - a) (drop a h)) ≡ of_row 0 axis)) → same_axis (of_row 0 axis).x (of_row 0 axis).z e ≡ r
  unfolding same_axis
  axis_compared true d =
      simp (eq-eqb _ _ (ap (λ (p : Pauli). p.x) (sym (d.0 refl)) ∙ part_x ∙ x_set), eq-eqb _ _ (ap (λ (p : Pauli). p.z) (sym (d.0 refl)) ∙ part_z ∙ z_set))
  axis_compared false d = go (eqb (of_row 0 axis).x e.x && eqb (of_row 0 axis).z e.z) refl
    where
      go : (b : Bool) → (eqb (of_row 0 axis).x e.x && eqb (of_row 0 axis).z e.z) ≡ b → (eqb (of_row 0 axis).x e.x && eqb (of_row 0 axis).z e.z) ≡ false
      go false q = q
      go true q =
          let both = and_both (eqb (of_row 0 axis).x e.x) (eqb (of_row 0 axis).z e.z) q in
          absurd (true≢false (sym (d.1 (row_of (part_x ∙ x_set ∙ sym (eqb-true _ _ both.0)) (part_z ∙ z_set ∙ sym (eqb-true _ _ both.1))))))
