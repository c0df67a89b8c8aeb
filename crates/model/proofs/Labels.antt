-- The label law: after any gates the sketch's label of a row is the exclusive or of the opening labels over the row's sets. So equal axes have
-- equal labels. Assumes nothing.
use Prim.Native.Nat.{ℕ, zero, suc, ◌+◌, ◌*◌, ◌/◌, ◌%◌, ◌^◌}
use mathlib.Core.Path.{◌≡◌, refl, sym, ap, ap₂, ◌∙◌}
use mathlib.Core.Bool.{Bool, true, false, cond}
use mathlib.Core.List.{List, [], ◌∷◌, map}
use native.Mathlib.Nat.{add-zero, zero-add}
use native.Mathlib.Omega.{arith}
use lib.Bits.{bit_xor, xor_mod, xor_shr, xor_self, xor_zero_r}
use lib.ListN.{length, get_or, set, get_or-map}
use lib.Dec.{eqb}
use Rattle.model.specs.Pauli.{Pauli, times, shift, plain}
use Rattle.model.specs.Frame.{Ops, Rows, Kind, kind_x, kind_y, kind_z, kind_p, Gate, h_gate, x_gate, y_gate, z_gate, s_gate, sdg_gate, sx_gate, cnot_gate, cz_gate, swap_gate, cy_gate, x_at, z_at, set_x, set_z, gate_h, gate_s, gate_z, gate_x, gate_cnot, gate_cz, gate_swap, gate, turn_z, turn, axis, paulis, from, pauli_x, pauli_z, fresh}
use Rattle.model.specs.Sketch.{Label, label_xor, no_label, labels, label_rows}
use Rattle.model.specs.Demands.{chosen, of_set, label_of}
use Rattle.model.proofs.Counts.{on_bit, xor_four}

-- ---- the gates commute with any map that respects products and turns

pub map-set : {A B : Type 0} (f : A → B) (l : List A) (i : ℕ) (a : A) → map f (set l i a) ≡ set (map f l) i (f a)
map-set f [] i a = refl
map-set f (x ∷ l) zero a = refl
map-set f (x ∷ l) (suc i) a = ap {B = List _} (λ t. f x ∷ t) (map-set f l i a)

unfoldable pub map_rows : {A B : Type 0} → (A → B) → Rows A → Rows B
map_rows f r = record { xs = map f r.xs; zs = map f r.zs }

map_rows-set_x : {A B : Type 0} (f : A → B) (r : Rows A) (q : ℕ) (a : A) → map_rows f (set_x r q a) ≡ set_x (map_rows f r) q (f a)
unfolding map_rows set_x
map_rows-set_x f r q a = λ i. record { xs = map-set f r.xs q a i; zs = map f r.zs }

map_rows-set_z : {A B : Type 0} (f : A → B) (r : Rows A) (q : ℕ) (a : A) → map_rows f (set_z r q a) ≡ set_z (map_rows f r) q (f a)
unfolding map_rows set_z
map_rows-set_z f r q a = λ i. record { xs = map f r.xs; zs = map-set f r.zs q a i }

module _ {A B : Type 0} (o : Ops A) (u : Ops B) (f : A → B) (hm : (a b : A) → f (o.mul a b) ≡ u.mul (f a) (f b))
    (ht : (k : ℕ) (a : A) → f (o.turned k a) ≡ u.turned k (f a)) (hu : f o.unit ≡ u.unit) where
  pub at_x : (r : Rows A) (q : ℕ) → x_at u (map_rows f r) q ≡ f (x_at o r q)
  unfolding x_at map_rows
  at_x r q = ap (get_or (map f r.xs) q) (sym hu) ∙ get_or-map f r.xs q o.unit

  pub at_z : (r : Rows A) (q : ℕ) → z_at u (map_rows f r) q ≡ f (z_at o r q)
  unfolding z_at map_rows
  at_z r q = ap (get_or (map f r.zs) q) (sym hu) ∙ get_or-map f r.zs q o.unit

  map_h_gate : (q : ℕ) (r : Rows A) → map_rows f (gate_h o q r) ≡ gate_h u q (map_rows f r)
  unfolding gate_h
  map_h_gate q r = simp (map_rows-set_x, map_rows-set_z, at_x, at_z)

  map_s_gate : (k q : ℕ) (r : Rows A) → map_rows f (gate_s o k q r) ≡ gate_s u k q (map_rows f r)
  unfolding gate_s
  map_s_gate k q r = simp (map_rows-set_x, at_x, at_z, hm, ht)

  map_z_gate : (q : ℕ) (r : Rows A) → map_rows f (gate_z o q r) ≡ gate_z u q (map_rows f r)
  unfolding gate_z
  map_z_gate q r = simp (map_rows-set_x, at_x, ht)

  map_x_gate : (q : ℕ) (r : Rows A) → map_rows f (gate_x o q r) ≡ gate_x u q (map_rows f r)
  unfolding gate_x
  map_x_gate q r = simp (map_rows-set_z, at_z, ht)

  map_cnot_gate : (c t : ℕ) (r : Rows A) → map_rows f (gate_cnot o c t r) ≡ gate_cnot u c t (map_rows f r)
  unfolding gate_cnot
  map_cnot_gate c t r = simp (map_rows-set_x, map_rows-set_z, at_x, at_z, hm)

  map_cz_gate : (c t : ℕ) (r : Rows A) → map_rows f (gate_cz o c t r) ≡ gate_cz u c t (map_rows f r)
  unfolding gate_cz
  map_cz_gate c t r = simp (map_rows-set_x, at_x, at_z, hm)

  map_swap_gate : (a b : ℕ) (r : Rows A) → map_rows f (gate_swap o a b r) ≡ gate_swap u a b (map_rows f r)
  unfolding gate_swap
  map_swap_gate a b r = simp (map_rows-set_x, map_rows-set_z, at_x, at_z)

  pub map_gate : (g : Gate) (r : Rows A) → map_rows f (gate o g r) ≡ gate u g (map_rows f r)
  unfolding gate
  map_gate (h_gate q) r = map_h_gate q r
  map_gate (x_gate q) r = map_x_gate q r
  map_gate (y_gate q) r = map_z_gate q (gate_x o q r) ∙ ap (gate_z u q) (map_x_gate q r)
  map_gate (z_gate q) r = map_z_gate q r
  map_gate (s_gate q) r = map_s_gate 3 q r
  map_gate (sdg_gate q) r = map_s_gate 1 q r
  map_gate (sx_gate q) r = simp (map_h_gate, map_s_gate)
  map_gate (cnot_gate c t) r = map_cnot_gate c t r
  map_gate (cz_gate c t) r = map_cz_gate c t r
  map_gate (swap_gate a b) r = map_swap_gate a b r
  map_gate (cy_gate c t) r = simp (map_s_gate, map_cnot_gate)

  map_turn_z : (k q : ℕ) (r : Rows A) → map_rows f (turn_z o k q r) ≡ turn_z u k q (map_rows f r)
  unfolding turn_z
  map_turn_z k q r = pick (eqb k 2) _ _ (map_s_gate 3 q r) (pick (eqb k 4) _ _ (map_z_gate q r) (pick (eqb k 6) _ _ (map_s_gate 1 q r) refl))
    where
      pick : (t : Bool) (a b : Rows A) {c d : Rows B} → map_rows f a ≡ c → map_rows f b ≡ d → map_rows f (cond t a b) ≡ cond t c d
      pick true a b p q = p
      pick false a b p q = q

  pub map_turn : (kind : Kind) (k q : ℕ) (r : Rows A) → map_rows f (turn o kind k q r) ≡ turn u kind k q (map_rows f r)
  unfolding turn
  map_turn kind_x k q r = simp (map_h_gate, map_turn_z)
  map_turn kind_y k q r = simp (map_h_gate, map_s_gate, map_turn_z)
  map_turn kind_z k q r = map_turn_z k q r
  map_turn kind_p k q r = map_turn_z k q r

  pub map_axis : (kind : Kind) (q : ℕ) (r : Rows A) → f (axis o kind q r) ≡ axis u kind q (map_rows f r)
  unfolding axis
  map_axis kind_x q r = sym (at_x r q)
  map_axis kind_y q r = ht 1 _ ∙ ap (u.turned 1) (hm _ _ ∙ ap₂ u.mul (sym (at_x r q)) (sym (at_z r q)))
  map_axis kind_z q r = sym (at_z r q)
  map_axis kind_p q r = sym (at_z r q)

-- ---- exclusive or

label_four : (a b c d : Label) → label_xor (label_xor a b) (label_xor c d) ≡ label_xor (label_xor a c) (label_xor b d)
unfolding label_xor
label_four a b c d = λ i. record { high = xor_four a.high b.high c.high d.high i; low = xor_four a.low b.low c.low d.low i }

label_zero_r : (a : Label) → label_xor a no_label ≡ a
unfolding label_xor no_label
label_zero_r a = λ i. record { high = xor_zero_r a.high i; low = xor_zero_r a.low i }

label_zero_l : (a : Label) → label_xor no_label a ≡ a
unfolding label_xor no_label
label_zero_l a = refl

label_self : (a : Label) → label_xor a a ≡ no_label
unfolding label_xor no_label
label_self a = λ i. record { high = xor_self a.high i; low = xor_self a.low i }

-- ---- the label of a set, and of a row

chosen-xor : (x y : ℕ) (a : Label) → chosen (bit_xor (x % 2) (y % 2)) a ≡ label_xor (chosen (x % 2) a) (chosen (y % 2) a)
unfolding chosen
chosen-xor x y a =
    on_bit (λ u. chosen (bit_xor u (y % 2)) a ≡ label_xor (chosen u a) (chosen (y % 2) a))
    (sym (label_zero_l (chosen (y % 2) a)))
    (on_bit (λ v. chosen (bit_xor 1 v) a ≡ label_xor a (chosen v a)) (sym (label_zero_r a)) (sym (label_self a)) y) x

pub of_set-xor : (s : List Label) (x y : ℕ) → of_set s (bit_xor x y) ≡ label_xor (of_set s x) (of_set s y)
unfolding of_set
of_set-xor [] x y = sym (label_zero_l no_label)
of_set-xor (a ∷ s) x y =
    ap₂ (λ (u v : ℕ). label_xor (chosen u a) (of_set s v)) (xor_mod x y 1) (xor_shr x y 1)
    ∙ ap₂ label_xor (chosen-xor x y a) (of_set-xor s (x / 2) (y / 2))
    ∙ label_four (chosen (x % 2) a) (chosen (y % 2) a) (of_set s (x / 2)) (of_set s (y / 2))

pub label_of-times : (k : Rows Label) (a b : Pauli) → label_of k (times a b) ≡ label_xor (label_of k a) (label_of k b)
unfolding label_of times
label_of-times k a b =
    ap₂ label_xor (of_set-xor k.xs a.x b.x) (of_set-xor k.zs a.z b.z)
    ∙ label_four (of_set k.xs a.x) (of_set k.xs b.x) (of_set k.zs a.z) (of_set k.zs b.z)

pub label_of-shift : (k : Rows Label) (m : ℕ) (a : Pauli) → label_of k (shift m a) ≡ label_of k a
unfolding label_of shift
label_of-shift k m a = refl

of_set_none : (s : List Label) → of_set s 0 ≡ no_label
unfolding of_set chosen
of_set_none [] = refl
of_set_none (a ∷ s) = label_zero_l (of_set s 0) ∙ of_set_none s

pub label_of-plain : (k : Rows Label) → label_of k plain ≡ no_label
unfolding label_of plain
label_of-plain k = ap₂ label_xor (of_set_none k.xs) (of_set_none k.zs) ∙ label_zero_l no_label

-- equal sets, equal labels
pub label_of_sets : (k : Rows Label) (a b : Pauli) → a.x ≡ b.x → a.z ≡ b.z → label_of k a ≡ label_of k b
unfolding label_of
label_of_sets k a b h j = ap₂ (λ (x z : ℕ). label_xor (of_set k.xs x) (of_set k.zs z)) h j

-- ---- the sketch follows the frame

-- the sketch k holds the label of each row of the frame r, from the labels o at opening
unfoldable pub Follows : Rows Label → Rows Pauli → Rows Label → Type 0
Follows o r k = k ≡ map_rows (label_of o) r

pub Follows-gate : (o : Rows Label) (r : Rows Pauli) (k : Rows Label) (g : Gate) → Follows o r k → Follows o (gate paulis g r) (gate labels g k)
unfolding Follows paulis labels
Follows-gate o r k g e =
    ap (gate labels g) e ∙ sym (map_gate paulis labels (label_of o) (label_of-times o) (label_of-shift o) (label_of-plain o) g r)

pub Follows-turn : (o : Rows Label) (r : Rows Pauli) (k : Rows Label) (kind : Kind) (m q : ℕ) → Follows o r k
    → Follows o (turn paulis kind m q r) (turn labels kind m q k)
unfolding Follows paulis labels
Follows-turn o r k kind m q e =
    ap (turn labels kind m q) e ∙ sym (map_turn paulis labels (label_of o) (label_of-times o) (label_of-shift o) (label_of-plain o) kind m q r)

pub Follows-x : (o : Rows Label) (r : Rows Pauli) (k : Rows Label) (q : ℕ) → Follows o r k → x_at labels k q ≡ label_of o (x_at paulis r q)
unfolding Follows paulis labels
Follows-x o r k q e = ap (λ (w : Rows Label). x_at labels w q) e ∙ at_x paulis labels (label_of o) (label_of-times o) (label_of-shift o) (label_of-plain o) r q

pub Follows-z : (o : Rows Label) (r : Rows Pauli) (k : Rows Label) (q : ℕ) → Follows o r k → z_at labels k q ≡ label_of o (z_at paulis r q)
unfolding Follows paulis labels
Follows-z o r k q e = ap (λ (w : Rows Label). z_at labels w q) e ∙ at_z paulis labels (label_of o) (label_of-times o) (label_of-shift o) (label_of-plain o) r q

pub Follows-axis : (o : Rows Label) (r : Rows Pauli) (k : Rows Label) (kind : Kind) (q : ℕ) → Follows o r k
    → axis labels kind q k ≡ label_of o (axis paulis kind q r)
unfolding Follows paulis labels
Follows-axis o r k kind q e =
    ap (axis labels kind q) e ∙ sym (map_axis paulis labels (label_of o) (label_of-times o) (label_of-shift o) (label_of-plain o) kind q r)

-- at opening

of_set_one : (s : List Label) (q : ℕ) → of_set s (2 ^ q) ≡ get_or s q no_label
unfolding of_set chosen
of_set_one [] q = refl
of_set_one (a ∷ s) zero = ap (label_xor a) (of_set_none s) ∙ label_zero_r a
of_set_one (a ∷ s) (suc q) =
    ap₂ (λ (u v : ℕ). label_xor (chosen u a) (of_set s v)) even half ∙ label_zero_l (of_set s (2 ^ q)) ∙ of_set_one s q
  where
    even : 2 ^ suc q % 2 ≡ 0
    even = omega arith

    half : 2 ^ suc q / 2 ≡ 2 ^ q
    half = omega arith

pub map-from : {A : Type 0} (f : ℕ → A) (d : A) (s : List A) (k : ℕ) → ((q : ℕ) → f (k + q) ≡ get_or s q d) → map f (from k (length s)) ≡ s
unfolding from
map-from f d [] k h = refl
map-from f d (a ∷ s) k h =
    ap₂ {C = List _} (λ u v. u ∷ v) (ap f (sym (add-zero k)) ∙ h 0) (map-from f d s (suc k) (λ q. ap f (line q) ∙ h (suc q)))
  where
    line : (q : ℕ) → suc k + q ≡ k + suc q
    line q = omega arith

label_of_x : (o : Rows Label) (q : ℕ) → label_of o (pauli_x q) ≡ get_or o.xs q no_label
unfolding label_of pauli_x
label_of_x o q = ap₂ label_xor (of_set_one o.xs q) (of_set_none o.zs) ∙ label_zero_r _

label_of_z : (o : Rows Label) (q : ℕ) → label_of o (pauli_z q) ≡ get_or o.zs q no_label
unfolding label_of pauli_z
label_of_z o q = ap₂ label_xor (of_set_none o.xs) (of_set_one o.zs q) ∙ label_zero_l _

pub map-map : {A B C : Type 0} (g : B → C) (f : A → B) (s : List A) → map g (map f s) ≡ map (λ a. g (f a)) s
map-map g f [] = refl
map-map g f (a ∷ s) = ap {B = List _} (λ t. g (f a) ∷ t) (map-map g f s)

pub Follows-fresh : (o : Rows Label) (n : ℕ) → length o.xs ≡ n → length o.zs ≡ n → Follows o (fresh n) o
unfolding Follows map_rows fresh
Follows-fresh o n hx hz = sym (λ i. record { xs = left i; zs = right i })
  where
    left : map (label_of o) (map pauli_x (from 0 n)) ≡ o.xs
    left =
        map-map (label_of o) pauli_x (from 0 n) ∙ ap (λ (m : ℕ). map (λ q. label_of o (pauli_x q)) (from 0 m)) (sym hx)
        ∙ map-from (λ q. label_of o (pauli_x q)) no_label o.xs 0 (λ q. ap (λ (m : ℕ). label_of o (pauli_x m)) (zero-add q) ∙ label_of_x o q)

    right : map (label_of o) (map pauli_z (from 0 n)) ≡ o.zs
    right =
        map-map (label_of o) pauli_z (from 0 n) ∙ ap (λ (m : ℕ). map (λ q. label_of o (pauli_z q)) (from 0 m)) (sym hz)
        ∙ map-from (λ q. label_of o (pauli_z q)) no_label o.zs 0 (λ q. ap (λ (m : ℕ). label_of o (pauli_z m)) (zero-add q) ∙ label_of_z o q)

-- 4 n words are labels of n qubits
pub label_rows-length : (ws : List ℕ) (n : ℕ) → length ws ≡ 4 * n → (length (label_rows ws).xs ≡ n) × (length (label_rows ws).zs ≡ n)
unfolding label_rows
label_rows-length [] n e = (omega arith, omega arith)
label_rows-length (a ∷ []) n e = absurd (no_one n e)
  where
    no_one : (n : ℕ) → 1 ≡ 4 * n → ⊥
    no_one n e = omega arith
label_rows-length (a ∷ b ∷ []) n e = absurd (no_two n e)
  where
    no_two : (n : ℕ) → 2 ≡ 4 * n → ⊥
    no_two n e = omega arith
label_rows-length (a ∷ b ∷ c ∷ []) n e = absurd (no_three n e)
  where
    no_three : (n : ℕ) → 3 ≡ 4 * n → ⊥
    no_three n e = omega arith
label_rows-length (a ∷ b ∷ c ∷ d ∷ ws) zero e = absurd (no_four (length ws) e)
  where
    no_four : (m : ℕ) → suc (suc (suc (suc m))) ≡ 0 → ⊥
    no_four m e = omega arith
label_rows-length (a ∷ b ∷ c ∷ d ∷ ws) (suc n) e =
    let h : (length (label_rows ws).xs ≡ n) × (length (label_rows ws).zs ≡ n) = label_rows-length ws n (omega arith) in
    (ap suc h.0, ap suc h.1)
