-- Every gate of `model` as one or two operations on rows by number, for rows of anything; and what that says of the words. Assumes nothing.
use mathlib.Core.Path.{◌≡◌, refl, sym, ap, ap₂, ◌∙◌, subst}
use mathlib.Core.Bool.{Bool, true, false, cond}
use mathlib.Core.List.{List}
use Prim.Native.Nat.{ℕ, ◌+◌, ◌*◌, ◌/◌, ◌%◌, ◌<◌}
use native.Mathlib.Nat.{le_trans, le_of_eq}
use native.Mathlib.Omega.{arith}
use native.Mathlib.Decide.{ℕ_discrete}
use lib.ListN.{length, get_or, set, length-set}
use lib.Dec.{eqb}
use lib.Seq.{get_or-set_same, get_or-set_other}
use borrow.Author.Tests.{ne_eqb}
use Rattle.model.specs.Pauli.{Pauli, times, shift}
use Rattle.model.specs.Frame.{Ops, Rows, x_at, z_at, set_x, set_z, gate_h, gate_s, gate_z, gate_x, gate_cnot, gate_cz, gate_swap, x_gate, z_gate, cnot_gate, cz_gate, swap_gate, h_gate, gate, turn_z, paulis}
use Rattle.model.specs.Sketch.{Label, labels}
use Rattle.frame.specs.Places.{IsRow, IsLabel, row_place, label_place, Rowed, put, swap_row, turn_row, times_row, row_of, Held, Moves, applied, after, Does}
use Rattle.frame.proofs.RowedLaws.{put_same, put_other, row_even, row_odd, at_x, at_z}

-- ---- rows by number

put_same_rows : {A : Type 0} (f h : ℕ → A) (g : ℕ) (a b : A) → ((j : ℕ) → f j ≡ h j) → a ≡ b → (j : ℕ) → put f g a j ≡ put h g b j
put_same_rows f h g a b e d j =
    elim (ℕ_discrete j g) [
      | yes i ↦ ap (put f g a) i ∙ put_same f g a ∙ d ∙ sym (put_same h g b) ∙ sym (ap (put h g b) i)
      | no i ↦ put_other f g a j i ∙ e j ∙ sym (put_other h g b j i)
    ]

module _ {A : Type 0} (o : Ops A) where
  set_x_lem : (r : Rows A) (q : ℕ) (a : A) → q < length r.xs → (j : ℕ) → row_of o (set_x r q a) j ≡ put (row_of o r) (2 * q) a j
  unfolding set_x x_at z_at
  set_x_lem r q a h j =
      elim (ℕ_discrete (j % 2) 0) [
        | yes e ↦ elim (ℕ_discrete (j / 2) q) [
          | yes i ↦
              let k : j ≡ 2 * q = omega arith in
              row_even o (set_x r q a) j e ∙ ap (λ (p : ℕ). get_or (set r.xs q a) p o.unit) i ∙ get_or-set_same r.xs q a o.unit h
              ∙ sym (put_same (row_of o r) (2 * q) a) ∙ sym (ap (put (row_of o r) (2 * q) a) k)
          | no i ↦ row_even o (set_x r q a) j e ∙ get_or-set_other r.xs q (j / 2) a o.unit i ∙ sym (row_even o r j e)
              ∙ sym (put_other (row_of o r) (2 * q) a j (λ k. i (omega arith)))
        ]
        | no e ↦ row_odd o (set_x r q a) j e ∙ sym (row_odd o r j e) ∙ sym (put_other (row_of o r) (2 * q) a j (λ k. e (omega arith)))
      ]

  set_z_lem : (r : Rows A) (q : ℕ) (a : A) → q < length r.zs → (j : ℕ) → row_of o (set_z r q a) j ≡ put (row_of o r) (2 * q + 1) a j
  unfolding set_z x_at z_at
  set_z_lem r q a h j =
      elim (ℕ_discrete (j % 2) 0) [
        | yes e ↦ row_even o (set_z r q a) j e ∙ sym (row_even o r j e) ∙ sym (put_other (row_of o r) (2 * q + 1) a j (λ k. omega arith))
        | no e ↦ elim (ℕ_discrete (j / 2) q) [
          | yes i ↦
              let k : j ≡ 2 * q + 1 = omega arith in
              row_odd o (set_z r q a) j e ∙ ap (λ (p : ℕ). get_or (set r.zs q a) p o.unit) i ∙ get_or-set_same r.zs q a o.unit h
              ∙ sym (put_same (row_of o r) (2 * q + 1) a) ∙ sym (ap (put (row_of o r) (2 * q + 1) a) k)
          | no i ↦ row_odd o (set_z r q a) j e ∙ get_or-set_other r.zs q (j / 2) a o.unit i ∙ sym (row_odd o r j e)
              ∙ sym (put_other (row_of o r) (2 * q + 1) a j (λ k. i (omega arith)))
        ]
      ]

  -- ---- the gates

  -- a frame of n qubits whose rows by number are F
  pub record Made (n : ℕ) (r : Rows A) (F : ℕ → A) : Type 0 where
    pub xs : length r.xs ≡ n
    pub zs : length r.zs ≡ n
    pub rows : (j : ℕ) → row_of o r j ≡ F j

  -- one row set to what F's row becomes
  put_x : (n : ℕ) (r : Rows A) (F : ℕ → A) (q : ℕ) (a b : A) → q < n → a ≡ b → Made n r F → Made n (set_x r q a) (put F (2 * q) b)
  unfolding set_x
  put_x n r F q a b h e m = record {
    xs = length-set r.xs q a ∙ m.xs;
    zs = m.zs;
    rows = λ j. set_x_lem r q a (le_trans h (le_of_eq (sym m.xs))) j ∙ put_same_rows (row_of o r) F (2 * q) a b m.rows e j;
  }

  put_z : (n : ℕ) (r : Rows A) (F : ℕ → A) (q : ℕ) (a b : A) → q < n → a ≡ b → Made n r F → Made n (set_z r q a) (put F (2 * q + 1) b)
  unfolding set_z
  put_z n r F q a b h e m = record {
    xs = m.xs;
    zs = length-set r.zs q a ∙ m.zs;
    rows = λ j. set_z_lem r q a (le_trans h (le_of_eq (sym m.zs))) j ∙ put_same_rows (row_of o r) F (2 * q + 1) a b m.rows e j;
  }

  module _ (quiet : (a b : A) → o.turned 0 (o.mul a b) ≡ o.mul a b) (n : ℕ) (r : Rows A) (hx : length r.xs ≡ n) (hz : length r.zs ≡ n) where
    F : ℕ → A
    F = row_of o r

    start : Made n r F
    unfolding F
    start = record { xs = hx; zs = hz; rows = λ j. refl }

    x_is : (q : ℕ) → x_at o r q ≡ F (2 * q)
    unfolding F
    x_is q = sym (at_x o r q)

    z_is : (q : ℕ) → z_at o r q ≡ F (2 * q + 1)
    unfolding F
    z_is q = sym (at_z o r q)

    -- another row of the family is as it was
    past : (g : ℕ) (a : A) (j : ℕ) → (j ≡ g → ⊥) → F j ≡ put F g a j
    past g a j d = sym (put_other F g a j d)

    -- a product that is not turned
    still : (a b c d : A) → a ≡ c → b ≡ d → o.mul a b ≡ o.turned 0 (o.mul c d)
    still a b c d e f = ap₂ o.mul e f ∙ sym (quiet c d)

    pub Made-h : (q : ℕ) → q < n → Made n (gate_h o q r) (swap_row (2 * q) (2 * q + 1) (row_of o r))
    unfolding F gate_h swap_row
    Made-h q h = put_z n _ _ q _ _ h (x_is q) (put_x n r F q _ _ h (z_is q) start)

    pub Made-s : (k q : ℕ) → q < n → Made n (gate_s o k q r) (times_row o k (2 * q) (2 * q + 1) (row_of o r))
    unfolding F gate_s times_row
    Made-s k q h = put_x n r F q _ _ h (ap₂ (λ (a b : A). o.turned k (o.mul a b)) (x_is q) (z_is q)) start

    pub Made-z : (q : ℕ) → q < n → Made n (gate_z o q r) (turn_row o 2 (2 * q) (row_of o r))
    unfolding F gate_z turn_row
    Made-z q h = put_x n r F q _ _ h (ap (o.turned 2) (x_is q)) start

    pub Made-x : (q : ℕ) → q < n → Made n (gate_x o q r) (turn_row o 2 (2 * q + 1) (row_of o r))
    unfolding F gate_x turn_row
    Made-x q h = put_z n r F q _ _ h (ap (o.turned 2) (z_is q)) start

    pub Made-cnot : (c t : ℕ) → c < n → t < n
        → Made n (gate_cnot o c t r) (times_row o 0 (2 * t + 1) (2 * c + 1) (times_row o 0 (2 * c) (2 * t) (row_of o r)))
    unfolding F gate_cnot times_row
    Made-cnot c t hc ht =
        put_z n _ _ t _ _ ht
        (still _ _ _ _ (z_is t ∙ past (2 * c) _ (2 * t + 1) (λ e. omega arith)) (z_is c ∙ past (2 * c) _ (2 * c + 1) (λ e. omega arith)))
        (put_x n r F c _ _ hc (still _ _ _ _ (x_is c) (x_is t)) start)

    pub Made-cz : (c t : ℕ) → c < n → t < n → (c ≡ t → ⊥)
        → Made n (gate_cz o c t r) (times_row o 0 (2 * t) (2 * c + 1) (times_row o 0 (2 * c) (2 * t + 1) (row_of o r)))
    unfolding F gate_cz times_row
    Made-cz c t hc ht d =
        put_x n _ _ t _ _ ht
        (still _ _ _ _ (x_is t ∙ past (2 * c) _ (2 * t) (λ e. d (omega arith))) (z_is c ∙ past (2 * c) _ (2 * c + 1) (λ e. omega arith)))
        (put_x n r F c _ _ hc (still _ _ _ _ (x_is c) (z_is t)) start)

    pub Made-swap : (a b : ℕ) → a < n → b < n
        → Made n (gate_swap o a b r) (swap_row (2 * a + 1) (2 * b + 1) (swap_row (2 * a) (2 * b) (row_of o r)))
    unfolding F gate_swap swap_row
    Made-swap a b ha hb =
        put_z n _ _ b _ _ hb (z_is a ∙ far (2 * a + 1) (λ e. omega arith) (λ e. omega arith))
        (put_z n _ _ a _ _ ha (z_is b ∙ far (2 * b + 1) (λ e. omega arith) (λ e. omega arith))
        (put_x n _ _ b _ _ hb (x_is a) (put_x n r F a _ _ ha (x_is b) start)))
      where
        far : (j : ℕ) → (j ≡ 2 * a → ⊥) → (j ≡ 2 * b → ⊥) → row_of o r j ≡ put (put (row_of o r) (2 * a) (row_of o r (2 * b))) (2 * b) (row_of o r (2 * a)) j
        far j d e = sym (put_other (put (row_of o r) (2 * a) (row_of o r (2 * b))) (2 * b) (row_of o r (2 * a)) j e ∙ put_other (row_of o r) (2 * a) (row_of o r (2 * b)) j d)

-- ---- what that says of the words

pub quiet_paulis : (a b : Pauli) → shift 0 (times a b) ≡ times a b
unfolding shift times
quiet_paulis a b =
    let n : ℕ = (times a b).phase in
    let e : (n + 0) % 4 ≡ n = omega arith in
    ap (λ (p : ℕ). record { phase = p; x = (times a b).x; z = (times a b).z }) e

pub Held-Made : (n l : ℕ) (r : Rows Pauli) (k : Rows Label) (P : ℕ → Pauli) (L : ℕ → Label) (s : List ℕ) → Made paulis n r P → Made labels n k L → Rowed (2 * n) l P L s
    → Held n l r k s
Held-Made n l r k P L s a b m = record {
  xs = a.xs;
  zs = a.zs;
  label_xs = b.xs;
  label_zs = b.zs;
  rows = record {
    long = m.long;
    row = λ g h. subst (IsRow l s (row_place l g)) (sym (a.rows g)) (m.row g h);
    label = λ g h. subst (IsLabel s (label_place (2 * n) l g)) (sym (b.rows g)) (m.label g h);
  };
}

-- F does to frames what G does to rows
pub Does-Moves : (n l : ℕ) (F : (A : Type 0) → Ops A → Rows A → Rows A) (G : (A : Type 0) → Ops A → (ℕ → A) → ℕ → A) (s : List ℕ) (ok : Bool) (t : List ℕ)
    → ((A : Type 0) (o : Ops A) → ((a b : A) → o.turned 0 (o.mul a b) ≡ o.mul a b) → (r : Rows A) → length r.xs ≡ n → length r.zs ≡ n
    → Made o n (F A o r) (G A o (row_of o r)))
    → Moves (2 * n) l G s ok t → Does n l F s ok t
unfolding paulis labels
Does-Moves n l F G s ok t made m r k held =
    let e = m (row_of paulis r) (row_of labels k) held.rows in (
      e.0,
      Held-Made n l (F Pauli paulis r) (F Label labels k) _ _ t (made Pauli paulis quiet_paulis r held.xs held.zs)
          (made Label labels (λ a b. refl) k held.label_xs held.label_zs) e.1,
    )

-- one after the other
pub Moves-then : (m l : ℕ) (F G : (A : Type 0) → Ops A → (ℕ → A) → ℕ → A) (s t u : List ℕ) (b ok : Bool) → Moves m l F s b t → Moves m l G t ok u
    → Moves m l (λ (A : Type 0) (o : Ops A) (f : ℕ → A). G A o (F A o f)) s ok u
Moves-then m l F G s t u b ok f g P L held = g _ _ (f P L held).1

pub Does-then : (n l : ℕ) (F G : (A : Type 0) → Ops A → Rows A → Rows A) (s t u : List ℕ) (b ok : Bool) → Does n l F s b t → Does n l G t ok u
    → Does n l (after G F) s ok u
Does-then n l F G s t u b ok f g r k held = g _ _ (f r k held).1

-- the same where the first one's answer is kept, since the second always succeeds
pub Does-after : (n l : ℕ) (F G : (A : Type 0) → Ops A → Rows A → Rows A) (s t u : List ℕ) (ok : Bool) → Does n l F s ok t → Does n l G t true u
    → Does n l (after G F) s ok u
Does-after n l F G s t u ok f g r k held = ((f r k held).0, (g _ _ (f r k held).1).1)

-- a no on the way cannot come
no_true : false ≡ true → ⊥
no_true e = subst (λ (b : Bool). cond b ⊥ (Unit {0})) e tt

-- a step that fails on s says that s holds no frames
pub Does-failed : (n l : ℕ) (F G : (A : Type 0) → Ops A → Rows A → Rows A) (s t u : List ℕ) (ok : Bool) → Does n l F s false t → Does n l G s ok u
Does-failed n l F G s t u ok f r k held = absurd (no_true (f r k held).0)

pub Moves-failed : (n l : ℕ) (F : (A : Type 0) → Ops A → (ℕ → A) → ℕ → A) (G : (A : Type 0) → Ops A → Rows A → Rows A) (s t u : List ℕ) (ok : Bool)
    → Moves (2 * n) l F s false t → Does n l G s ok u
Moves-failed n l F G s t u ok f r k held = absurd (no_true (f (row_of paulis r) (row_of labels k) held.rows).0)

-- ---- each gate by its moves

-- what is done to rows of anything, and to frames of anything
abbrev RowMove : Type 1
RowMove = (A : Type 0) → Ops A → (ℕ → A) → ℕ → A

abbrev FrameMove : Type 1
FrameMove = (A : Type 0) → Ops A → Rows A → Rows A

abbrev moves_h : ℕ → RowMove
moves_h q A o f = swap_row (2 * q) (2 * q + 1) f

abbrev moves_x : ℕ → RowMove
moves_x q A o f = turn_row o 2 (2 * q + 1) f

abbrev moves_z : ℕ → RowMove
moves_z q A o f = turn_row o 2 (2 * q) f

abbrev moves_quarter : ℕ → ℕ → RowMove
moves_quarter by q A o f = times_row o by (2 * q) (2 * q + 1) f

abbrev moves_cnot : ℕ → ℕ → RowMove
moves_cnot c d A o f = times_row o 0 (2 * d + 1) (2 * c + 1) (times_row o 0 (2 * c) (2 * d) f)

abbrev moves_cz : ℕ → ℕ → RowMove
moves_cz c d A o f = times_row o 0 (2 * d) (2 * c + 1) (times_row o 0 (2 * c) (2 * d + 1) f)

abbrev moves_swap : ℕ → ℕ → RowMove
moves_swap a b A o f = swap_row (2 * a + 1) (2 * b + 1) (swap_row (2 * a) (2 * b) f)

module _ (n l : ℕ) (s : List ℕ) (ok : Bool) (t : List ℕ) where
  pub Does-h : (q : ℕ) → q < n → Moves (2 * n) l (moves_h q) s ok t → Does n l (applied (h_gate q)) s ok t
  unfolding gate
  Does-h q hq = Does-Moves n l (λ (A : Type 0) (o : Ops A). gate_h o q) (moves_h q) s ok t (λ A o quiet r hx hz. Made-h o quiet n r hx hz q hq)

  pub Does-x : (q : ℕ) → q < n → Moves (2 * n) l (moves_x q) s ok t → Does n l (applied (x_gate q)) s ok t
  unfolding gate
  Does-x q hq = Does-Moves n l (λ (A : Type 0) (o : Ops A). gate_x o q) (moves_x q) s ok t (λ A o quiet r hx hz. Made-x o quiet n r hx hz q hq)

  pub Does-z : (q : ℕ) → q < n → Moves (2 * n) l (moves_z q) s ok t → Does n l (applied (z_gate q)) s ok t
  unfolding gate
  Does-z q hq = Does-Moves n l (λ (A : Type 0) (o : Ops A). gate_z o q) (moves_z q) s ok t (λ A o quiet r hx hz. Made-z o quiet n r hx hz q hq)

  pub Does-quarter : (by q : ℕ) → q < n → Moves (2 * n) l (moves_quarter by q) s ok t → Does n l (λ (A : Type 0) (o : Ops A). gate_s o by q) s ok t
  Does-quarter by q hq = Does-Moves n l (λ (A : Type 0) (o : Ops A). gate_s o by q) (moves_quarter by q) s ok t (λ A o quiet r hx hz. Made-s o quiet n r hx hz by q hq)

  pub Does-cnot : (c d : ℕ) → c < n → d < n → Moves (2 * n) l (moves_cnot c d) s ok t → Does n l (applied (cnot_gate c d)) s ok t
  unfolding gate
  Does-cnot c d hc hd = Does-Moves n l (λ (A : Type 0) (o : Ops A). gate_cnot o c d) (moves_cnot c d) s ok t (λ A o quiet r hx hz. Made-cnot o quiet n r hx hz c d hc hd)

  pub Does-cz : (c d : ℕ) → c < n → d < n → (c ≡ d → ⊥) → Moves (2 * n) l (moves_cz c d) s ok t → Does n l (applied (cz_gate c d)) s ok t
  unfolding gate
  Does-cz c d hc hd e = Does-Moves n l (λ (A : Type 0) (o : Ops A). gate_cz o c d) (moves_cz c d) s ok t (λ A o quiet r hx hz. Made-cz o quiet n r hx hz c d hc hd e)

  pub Does-swap : (a b : ℕ) → a < n → b < n → Moves (2 * n) l (moves_swap a b) s ok t → Does n l (applied (swap_gate a b)) s ok t
  unfolding gate
  Does-swap a b ha hb = Does-Moves n l (λ (A : Type 0) (o : Ops A). gate_swap o a b) (moves_swap a b) s ok t (λ A o quiet r hx hz. Made-swap o quiet n r hx hz a b ha hb)

-- ---- turns of kind z

-- by the number that the code has found
pub Does-turn : (n l k m q : ℕ) (s : List ℕ) (ok : Bool) (t : List ℕ) → k ≡ m → Does n l (λ (A : Type 0) (o : Ops A). turn_z o m q) s ok t
    → Does n l (λ (A : Type 0) (o : Ops A). turn_z o k q) s ok t
Does-turn n l k m q s ok t e d = subst (λ (i : ℕ). Does n l (λ (A : Type 0) (o : Ops A). turn_z o i q) s ok t) (sym e) d

no_turn : {A : Type 0} (o : Ops A) (k q : ℕ) (r : Rows A) → (k ≡ 2 → ⊥) → (k ≡ 4 → ⊥) → (k ≡ 6 → ⊥) → turn_z o k q r ≡ r
unfolding turn_z
no_turn {A} o k q r a b c =
    ap (λ (i : Bool). cond i (gate_s o 3 q r) (cond (eqb k 4) (gate_z o q r) (cond (eqb k 6) (gate_s o 1 q r) r))) (ne_eqb k 2 a)
    ∙ ap (λ (i : Bool). cond i (gate_z o q r) (cond (eqb k 6) (gate_s o 1 q r) r)) (ne_eqb k 4 b)
    ∙ ap (λ (i : Bool). cond i (gate_s o 1 q r) r) (ne_eqb k 6 c)

pub Does-no_turn : (n l k q : ℕ) (s : List ℕ) → (k ≡ 2 → ⊥) → (k ≡ 4 → ⊥) → (k ≡ 6 → ⊥) → Does n l (λ (A : Type 0) (o : Ops A). turn_z o k q) s true s
Does-no_turn n l k q s a b c r v held = (
  refl,
  subst (λ (w : Rows Pauli). Held n l w (turn_z labels k q v) s) (sym (no_turn paulis k q r a b c))
      (subst (λ (w : Rows Label). Held n l r w s) (sym (no_turn labels k q v a b c)) held),
)
