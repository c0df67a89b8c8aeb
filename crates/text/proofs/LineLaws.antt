-- Lines: reading is the inverse of `text`. Each of the 26 shapes is told from the others by one computed test, and each makes a line of its values that
-- has this shape and these values. Assumes nothing.
use Prim.Native.Nat.{ℕ, ◌+◌, ◌≤◌, ◌<◌, ◌^◌}
use mathlib.Core.Path.{◌≡◌, refl, sym, ◌∙◌, ap, ap₂, subst}
use mathlib.Core.Bool.{Bool, true, cond}
use mathlib.Core.List.{List, [], ◌∷◌}
use native.Mathlib.Omega.{arith}
use borrow.Author.Tests.{ne_eqb, eqb-true, eqb-false}
use lib.Dec.{eqb, lit<}
use lib.ListN.{length}
use Rattle.frame.specs.declared.axes.Kind.{Kind}
use Rattle.frame.specs.declared.axes.Kind.TheVariants as kind
use Rattle.history.specs.declared.forms.Form.TheVariants as form
use Rattle.gating.specs.declared.gates.Gate.TheVariants as gate
use Rattle.partner.specs.declared.calls.Call.TheVariants as call
use Rattle.text.specs.Shape.{item_of, bytes, print, limits, Below, Good}
use Rattle.text.specs.Taken.{nibble}
use Rattle.text.specs.Fit.{fitted, zeros, pushes}
use Rattle.text.specs.Line.{number_of, shape_of, values, text, Legal, Reads, kind_numbered}
use Rattle.text.proofs.Rows.{shape_at, line_of}
use Rattle.text.specs.declared.shapes.Five.{Five}
use Rattle.std.specs.Prelude.{Option, Some, None}
use Rattle.text.specs.declared.lines.Line.{Line}
use Rattle.text.specs.declared.lines.Line.TheVariants as line
use Rattle.text.proofs.Tests.{decided, each, every, checked}
use Rattle.text.proofs.Back.{sane, apart, complete, sound, other, missed, none_left}

-- ---- the shapes are sane, and no two of them share a text

sane_at : (k : ℕ) → k < 26 → sane (shape_at k) ≡ true
unfolding sane item_of nibble
sane_at = checked 26 (λ k. sane (shape_at k)) refl

apart_or_same : (i j : ℕ) → i < 26 → j < 26 → cond (eqb i j) true (apart (shape_at i) (shape_at j)) ≡ true
unfolding apart item_of
apart_or_same i j h m =
    checked 26 (λ y. cond (eqb i y) true (apart (shape_at i) (shape_at y)))
    (checked 26 (λ x. every 26 (λ y. cond (eqb x y) true (apart (shape_at x) (shape_at y)))) refl i h) j m

apart_at : (i j : ℕ) → i < 26 → j < 26 → (i ≡ j → ⊥) → apart (shape_at i) (shape_at j) ≡ true
apart_at i j h m d = subst (λ (b : Bool). cond b true (apart (shape_at i) (shape_at j)) ≡ true) (ne_eqb i j d) (apart_or_same i j h m)

-- ---- the values of a shape with one, two, three or five places

one_place : (l : ℕ) (vs : List ℕ) → Below vs (l ∷ []) → (a : ℕ) × (a ∷ [] ≡ vs) × (a < l)
one_place l [] g = absurd g
one_place l (a ∷ []) g = (a, refl, g.0)
one_place l (a ∷ b ∷ vs) g = absurd g.1

two_places : (l m : ℕ) (vs : List ℕ) → Below vs (l ∷ m ∷ []) → (a : ℕ) × (b : ℕ) × (a ∷ b ∷ [] ≡ vs) × (a < l) × (b < m)
two_places l m [] g = absurd g
two_places l m (a ∷ vs) g = let q = one_place m vs g.1 in (a, q.0, ap (λ (t : List ℕ). a ∷ t) q.1, g.0, q.2)

three_places : (l m n : ℕ) (vs : List ℕ) → Below vs (l ∷ m ∷ n ∷ []) → (a : ℕ) × (b : ℕ) × (c : ℕ) × (a ∷ b ∷ c ∷ [] ≡ vs) × (a < l) × (b < m) × (c < n)
three_places l m n [] g = absurd g
three_places l m n (a ∷ vs) g = let q = two_places m n vs g.1 in (a, q.0, q.1, ap (λ (t : List ℕ). a ∷ t) q.2, g.0, q.3, q.4)

five_places : (l m n o p : ℕ) (vs : List ℕ) → Below vs (l ∷ m ∷ n ∷ o ∷ p ∷ []) → (a : ℕ) × (b : ℕ) × (c : ℕ) × (d : ℕ) × (e : ℕ) × (a ∷ b ∷ c ∷ d ∷ e ∷ [] ≡ vs)
five_places l m n o p [] g = absurd g
five_places l m n o p (a ∷ []) g = absurd g.1
five_places l m n o p (a ∷ b ∷ vs) g = let q = three_places n o p vs g.1.1 in (a, b, q.0, q.1, q.2, ap (λ (t : List ℕ). a ∷ b ∷ t) q.3)

-- ---- the kinds and their numbers

kind_number : (k : ℕ) → k < 4 → number_of (kind_numbered k) ≡ k
unfolding kind_numbered
kind_number k h =
    decided (eqb k 0) (λ x. simp x (sym (eqb-true _ _ x)))
    (λ x. decided (eqb k 1) (λ y. simp (x, y) (sym (eqb-true _ _ y)))
    (λ y. decided (eqb k 2) (λ z. simp (x, y, z) (sym (eqb-true _ _ z)))
    (λ z. let n0 : k ≡ 0 → ⊥ = eqb-false _ _ x in
    let n1 : k ≡ 1 → ⊥ = eqb-false _ _ y in
    let n2 : k ≡ 2 → ⊥ = eqb-false _ _ z in
    let e : 3 ≡ k = omega arith in
    simp (x, y, z) e)))

kept_kind : (t : Kind) → kind_numbered (number_of t) ≡ t
unfolding kind_numbered
kept_kind kind.X = refl
kept_kind kind.Y = refl
kept_kind kind.Z = refl
kept_kind kind.P = refl

-- ---- a line's place in the row of shapes

abbrev pub index : Line → ℕ
index (line.Qubits a) = 0
index (line.Form form.Scalar) = 1
index (line.Form form.Sliced) = 2
index (line.Events a) = 3
index (line.Steps a) = 4
index (line.Label a b c d e) = 5
index (line.Call (call.Gate (gate.H a))) = 6
index (line.Call (call.Gate (gate.X a))) = 7
index (line.Call (call.Gate (gate.Y a))) = 8
index (line.Call (call.Gate (gate.Z a))) = 9
index (line.Call (call.Gate (gate.S a))) = 10
index (line.Call (call.Gate (gate.Sdg a))) = 11
index (line.Call (call.Gate (gate.Sx a))) = 12
index (line.Call (call.Gate (gate.Cnot a b))) = 13
index (line.Call (call.Gate (gate.Cz a b))) = 14
index (line.Call (call.Gate (gate.Cy a b))) = 15
index (line.Call (call.Gate (gate.Swap a b))) = 16
index (line.Call (call.Turn t k a)) = 17
index (line.Call (call.Record t a g)) = 18
index (line.Call (call.Measure a)) = 19
index (line.Call (call.Reset a)) = 20
index (line.Call (call.Ccx a b c)) = 21
index (line.Call (call.Ccz a b c)) = 22
index (line.Call (call.Kill a)) = 23
index (line.Call call.Clear) = 24
index (line.Look t a) = 25

-- there its shape stands, which makes it of its values
pub There : Line → Type 0
There l = (line_of (index l) (pushes zeros (values l)) ≡ Some l) × (index l < 26) × (shape_at (index l) ≡ bytes (shape_of l))

there : (l : Line) → There l
unfolding There
there (line.Qubits a) = (refl, lit< tt, refl)
there (line.Form form.Scalar) = (refl, lit< tt, refl)
there (line.Form form.Sliced) = (refl, lit< tt, refl)
there (line.Events a) = (refl, lit< tt, refl)
there (line.Steps a) = (refl, lit< tt, refl)
there (line.Label a b c d e) = (refl, lit< tt, refl)
there (line.Call (call.Gate (gate.H a))) = (refl, lit< tt, refl)
there (line.Call (call.Gate (gate.X a))) = (refl, lit< tt, refl)
there (line.Call (call.Gate (gate.Y a))) = (refl, lit< tt, refl)
there (line.Call (call.Gate (gate.Z a))) = (refl, lit< tt, refl)
there (line.Call (call.Gate (gate.S a))) = (refl, lit< tt, refl)
there (line.Call (call.Gate (gate.Sdg a))) = (refl, lit< tt, refl)
there (line.Call (call.Gate (gate.Sx a))) = (refl, lit< tt, refl)
there (line.Call (call.Gate (gate.Cnot a b))) = (refl, lit< tt, refl)
there (line.Call (call.Gate (gate.Cz a b))) = (refl, lit< tt, refl)
there (line.Call (call.Gate (gate.Cy a b))) = (refl, lit< tt, refl)
there (line.Call (call.Gate (gate.Swap a b))) = (refl, lit< tt, refl)
there (line.Call (call.Turn t k a)) = (ap (λ (x : Kind). Some (line.Call (call.Turn x k a))) (kept_kind t), lit< tt, refl)
there (line.Call (call.Record t a g)) = (ap (λ (x : Kind). Some (line.Call (call.Record x a g))) (kept_kind t), lit< tt, refl)
there (line.Call (call.Measure a)) = (refl, lit< tt, refl)
there (line.Call (call.Reset a)) = (refl, lit< tt, refl)
there (line.Call (call.Ccx a b c)) = (refl, lit< tt, refl)
there (line.Call (call.Ccz a b c)) = (refl, lit< tt, refl)
there (line.Call (call.Kill a)) = (refl, lit< tt, refl)
there (line.Call call.Clear) = (refl, lit< tt, refl)
there (line.Look t a) = (ap (λ (x : Kind). Some (line.Look x a)) (kept_kind t), lit< tt, refl)

-- ---- and every shape, with good values, has its line

abbrev pub Back : ℕ → Type 0
Back k = (vs : List ℕ) → Good (shape_at k) vs → (l : Line) × (index l ≡ k) × (values l ≡ vs)

none : (k : ℕ) (l : Line) → index l ≡ k → values l ≡ [] → limits (shape_at k) ≡ [] → Back k
none k l i v e vs g = (l, i, v ∙ sym (none_left vs (subst (Below vs) e g)))

one : (k : ℕ) {l : ℕ} (F : ℕ → Line) → ((a : ℕ) → index (F a) ≡ k) → ((a : ℕ) → values (F a) ≡ a ∷ []) → limits (shape_at k) ≡ l ∷ [] → Back k
one k {l} F i v e vs g = let q = one_place l vs (subst (Below vs) e g) in (F q.0, i q.0, v q.0 ∙ q.1)

two : (k : ℕ) {l m : ℕ} (F : ℕ → ℕ → Line) → ((a b : ℕ) → index (F a b) ≡ k) → ((a b : ℕ) → a < l → values (F a b) ≡ a ∷ b ∷ [])
    → limits (shape_at k) ≡ l ∷ m ∷ [] → Back k
two k {l} {m} F i v e vs g = let q = two_places l m vs (subst (Below vs) e g) in (F q.0 q.1, i q.0 q.1, v q.0 q.1 q.3 ∙ q.2)

three : (k : ℕ) {l m n : ℕ} (F : ℕ → ℕ → ℕ → Line) → ((a b c : ℕ) → index (F a b c) ≡ k)
    → ((a b c : ℕ) → a < l → b < m → values (F a b c) ≡ a ∷ b ∷ c ∷ [])
    → limits (shape_at k) ≡ l ∷ m ∷ n ∷ [] → Back k
three k {l} {m} {n} F i v e vs g =
    let q = three_places l m n vs (subst (Below vs) e g) in
    (F q.0 q.1 q.2, i q.0 q.1 q.2, v q.0 q.1 q.2 q.4 q.5 ∙ q.3)

five : (k : ℕ) {l m n o p : ℕ} (F : ℕ → ℕ → ℕ → ℕ → ℕ → Line) → ((a b c d e : ℕ) → index (F a b c d e) ≡ k)
    → ((a b c d e : ℕ) → values (F a b c d e) ≡ a ∷ b ∷ c ∷ d ∷ e ∷ [])
    → limits (shape_at k) ≡ l ∷ m ∷ n ∷ o ∷ p ∷ [] → Back k
five k {l} {m} {n} {o} {p} F i v e vs g =
    let q = five_places l m n o p vs (subst (Below vs) e g) in
    (F q.0 q.1 q.2 q.3 q.4, i q.0 q.1 q.2 q.3 q.4, v q.0 q.1 q.2 q.3 q.4 ∙ q.5)

back : (k : ℕ) → k < 26 → Back k
unfolding limits item_of
back =
    let b0 : Back 0 = one 0 (λ a. line.Qubits a) (λ a. refl) (λ a. refl) refl in
    let b1 : Back 1 = none 1 (line.Form form.Scalar) refl refl refl in
    let b2 : Back 2 = none 2 (line.Form form.Sliced) refl refl refl in
    let b3 : Back 3 = one 3 (λ a. line.Events a) (λ a. refl) (λ a. refl) refl in
    let b4 : Back 4 = one 4 (λ a. line.Steps a) (λ a. refl) (λ a. refl) refl in
    let b5 : Back 5 = five 5 (λ a b c d e. line.Label a b c d e) (λ a b c d e. refl) (λ a b c d e. refl) refl in
    let b6 : Back 6 = one 6 (λ a. line.Call (call.Gate (gate.H a))) (λ a. refl) (λ a. refl) refl in
    let b7 : Back 7 = one 7 (λ a. line.Call (call.Gate (gate.X a))) (λ a. refl) (λ a. refl) refl in
    let b8 : Back 8 = one 8 (λ a. line.Call (call.Gate (gate.Y a))) (λ a. refl) (λ a. refl) refl in
    let b9 : Back 9 = one 9 (λ a. line.Call (call.Gate (gate.Z a))) (λ a. refl) (λ a. refl) refl in
    let b10 : Back 10 = one 10 (λ a. line.Call (call.Gate (gate.S a))) (λ a. refl) (λ a. refl) refl in
    let b11 : Back 11 = one 11 (λ a. line.Call (call.Gate (gate.Sdg a))) (λ a. refl) (λ a. refl) refl in
    let b12 : Back 12 = one 12 (λ a. line.Call (call.Gate (gate.Sx a))) (λ a. refl) (λ a. refl) refl in
    let b13 : Back 13 = two 13 (λ a b. line.Call (call.Gate (gate.Cnot a b))) (λ a b. refl) (λ a b h. refl) refl in
    let b14 : Back 14 = two 14 (λ a b. line.Call (call.Gate (gate.Cz a b))) (λ a b. refl) (λ a b h. refl) refl in
    let b15 : Back 15 = two 15 (λ a b. line.Call (call.Gate (gate.Cy a b))) (λ a b. refl) (λ a b h. refl) refl in
    let b16 : Back 16 = two 16 (λ a b. line.Call (call.Gate (gate.Swap a b))) (λ a b. refl) (λ a b h. refl) refl in
    let b17 : Back 17 = three 17 (λ k t a. line.Call (call.Turn (kind_numbered t) k a)) (λ k t a. refl) (λ k t a h m. ap (λ (x : ℕ). k ∷ x ∷ a ∷ []) (kind_number t m)) refl in
    let b18 : Back 18 = three 18 (λ t a g. line.Call (call.Record (kind_numbered t) a g)) (λ t a g. refl) (λ t a g h m. ap (λ (x : ℕ). x ∷ a ∷ g ∷ []) (kind_number t h)) refl in
    let b19 : Back 19 = one 19 (λ a. line.Call (call.Measure a)) (λ a. refl) (λ a. refl) refl in
    let b20 : Back 20 = one 20 (λ a. line.Call (call.Reset a)) (λ a. refl) (λ a. refl) refl in
    let b21 : Back 21 = three 21 (λ a b c. line.Call (call.Ccx a b c)) (λ a b c. refl) (λ a b c h m. refl) refl in
    let b22 : Back 22 = three 22 (λ a b c. line.Call (call.Ccz a b c)) (λ a b c. refl) (λ a b c h m. refl) refl in
    let b23 : Back 23 = one 23 (λ a. line.Call (call.Kill a)) (λ a. refl) (λ a. refl) refl in
    let b24 : Back 24 = none 24 (line.Call call.Clear) refl refl refl in
    let b25 : Back 25 = two 25 (λ t a. line.Look (kind_numbered t) a) (λ t a. refl) (λ t a h. ap (λ (x : ℕ). x ∷ a ∷ []) (kind_number t h)) refl in
    each 26 Back
    ((((((((((((((((((((((((((tt, b0), b1), b2), b3), b4), b5), b6), b7), b8), b9), b10), b11), b12), b13), b14), b15), b16), b17), b18), b19), b20), b21), b22), b23), b24), b25)

-- a tag is one of 32 bits: the record line is the shape 18
pub tagged : (s : List ℕ) (f : Five) → fitted (shape_at 18) zeros s ≡ Some f → f.e < 2 ^ 32
unfolding limits item_of
tagged s f h =
    let q = sound (shape_at 18) zeros s f h in
    let g : Good (shape_at 18) q.0 = q.1 in
    let t = three_places _ _ _ q.0 g in
    let p : f ≡ pushes zeros (t.0 ∷ t.1 ∷ t.2 ∷ []) = q.3 ∙ ap (pushes zeros) (sym t.3) in
    subst (λ (x : ℕ). x < 2 ^ 32) (sym (ap (λ (x : Five). x.e) p)) t.6

-- ---- the answer

-- none of the first k shapes hits
abbrev pub NoneBefore : List ℕ → ℕ → Type 0
NoneBefore s k = (j : ℕ) → j < k → fitted (shape_at j) zeros s ≡ None

module _ (s : List ℕ) where
  -- under a shape that hits
  module _ (k : ℕ) (f : Five) (h : k < 26) (hit : fitted (shape_at k) zeros s ≡ Some f) (r : Option Line) (m : r ≡ line_of k f) (short : length s ≤ 80) where
    Source : Type 0
    Source = (l : Line) × (index l ≡ k) × Good (shape_at k) (values l) × (s ≡ print (shape_at k) (values l)) × (f ≡ pushes zeros (values l))

    source : Source
    unfolding Source
    source =
        let q = sound (shape_at k) zeros s f hit in
        let b = back k h q.0 q.1 in
        (b.0, b.1, rw b.2 q.1, rw b.2 q.2, rw b.2 q.3)

    text_here : (l : Line) → index l ≡ k → bytes (shape_of l) ≡ shape_at k
    unfolding There
    text_here l e = sym (there l).2 ∙ ap shape_at e

    answers : (l : Line) → index l ≡ k → f ≡ pushes zeros (values l) → r ≡ Some l
    unfolding There
    answers l e p = m ∙ ap₂ line_of (sym e) p ∙ (there l).0

    legal : (l : Line) → index l ≡ k → Good (shape_at k) (values l) → s ≡ print (shape_at k) (values l) → Legal l × (text l ≡ s)
    unfolding text
    legal l e g p =
        let t : bytes (shape_of l) ≡ shape_at k = text_here l e in
        let u : print (bytes (shape_of l)) (values l) ≡ s = ap (λ (x : List ℕ). print x (values l)) t ∙ sym p in
        (record { good = subst (λ (x : List ℕ). Good x (values l)) (sym t) g; short = subst (λ (x : List ℕ). length x ≤ 80) (sym u) short }, u)

    only_here : (l : Line) → r ≡ Some l → Legal l × (text l ≡ s)
    unfolding Source
    only_here l e =
        let q = source in
        let a : r ≡ Some q.0 = answers q.0 q.1 q.4 in
        let same : q.0 ≡ l = cc in
        subst (λ (x : Line). Legal x × (text x ≡ s)) same (legal q.0 q.1 q.2 q.3)

    all_here : (l : Line) → Legal l → text l ≡ s → r ≡ Some l
    unfolding text There
    all_here l g t =
        let shape : shape_at (index l) ≡ bytes (shape_of l) = (there l).2 in
        decided (eqb k (index l))
        (λ e. let i : index l ≡ k = sym (eqb-true _ _ e) in
        let b : bytes (shape_of l) ≡ shape_at k = text_here l i in
        let j : fitted (shape_at k) zeros s ≡ Some (pushes zeros (values l)) =
        subst (λ (x : List ℕ). fitted (shape_at k) zeros x ≡ Some (pushes zeros (values l))) (ap (λ (x : List ℕ). print x (values l)) (sym b) ∙ t)
        (complete (shape_at k) (sane_at k h) zeros (values l) (subst (λ (x : List ℕ). Good x (values l)) b g.good)) in
        let p : f ≡ pushes zeros (values l) = cc in
        answers l i p)
        (λ e. let j : fitted (shape_at k) zeros s ≡ None =
        subst (λ (x : List ℕ). fitted (shape_at k) zeros x ≡ None) (ap (λ (x : List ℕ). print x (values l)) shape ∙ t)
        (other (shape_at k) (shape_at (index l)) (apart_at k (index l) h (there l).1 (eqb-false _ _ e)) zeros (values l)) in
        absurd (missed (sym j ∙ hit)))

    pub Reads-hit : Reads s r
    Reads-hit = record { only = only_here; all = all_here }

  pub bad_is_none : {l : Line} → None ≡ Some l → ⊥
  bad_is_none e = let z : ◌≡◌ {A = ℕ} 0 1 = cc in omega arith

  -- under none
  pub reads_none : NoneBefore s 26 → Reads s None
  unfolding text There
  reads_none h = record {
    only = λ l e. absurd (bad_is_none e);
    all = λ l g t.
        let w = there l in
        let j : fitted (bytes (shape_of l)) zeros s ≡ Some (pushes zeros (values l)) =
        subst (λ (x : List ℕ). fitted (bytes (shape_of l)) zeros x ≡ Some (pushes zeros (values l))) t
        (complete (bytes (shape_of l)) (subst (λ (x : List ℕ). sane x ≡ true) w.2 (sane_at (index l) w.1)) zeros (values l) g.good) in
        absurd (missed (sym (subst (λ (x : List ℕ). fitted x zeros s ≡ None) w.2 (h (index l) w.1)) ∙ j));
  }

  pub Reads-long : 80 < length s → Reads s None
  Reads-long h = record {
    only = λ l e. absurd (bad_is_none e);
    all = λ l g t. let u : length (text l) ≡ length s = ap length t in let v = g.short in absurd (omega arith);
  }

pub one_more : (s : List ℕ) (k : ℕ) → NoneBefore s k → fitted (shape_at k) zeros s ≡ None → NoneBefore s (k + 1)
one_more s k h e j m =
    decided (eqb j k)
    (λ d. ap (λ (x : ℕ). fitted (shape_at x) zeros s) (eqb-true j k d) ∙ e)
    (λ d. let n : j ≡ k → ⊥ = eqb-false j k d in h j (omega arith))
