-- Rows of ours and of the paper's are the same things, and so are our frames and theirs, row for row. Assumes nothing.
use Prim.Native.Nat.{ℕ, ◌+◌, ◌*◌, ◌/◌, ◌%◌, ◌<◌}
use mathlib.Core.Path.{◌≡◌, sym, ap, ◌∙◌}
use mathlib.Core.Logic.{inl, inr}
use mathlib.Core.List.{List, [], ◌∷◌, append-nil}
use native.Mathlib.Omega.{arith}
use native.Mathlib.Nat.{mod-lt}
use lib.Bits.{bit_and}
use lib.Dec.{lit<}
use Rattle.model.specs.Pauli.{Pauli, count, quarter, sign_of, sign}
use Rattle.model.specs.Frame.{Kind, kind_x, kind_z, Gate, x_at, z_at, gate, axis, paulis, fresh, Rows}
use Rattle.model.specs.Events.{Opening}
use Rattle.model.specs.Calls.{opened, Lent, calls}
use Rattle.model.specs.Demands.{Fits, HasSign}
use Rattle.model.proofs.Products.{quarter-lt, quarter_whole, m4_cancel, m4_mod, m4_low, Even, has_sign, sign_quarter, Even-mod, mod-Even}
use Rattle.paper.specs.Tableau.{Row, run, inverse, Step}
use Rattle.paper.specs.Bridge.{AllFit, to_row, of_row, row_sign, single, circuit, circuits, gates, applied, carried}
use Rattle.paper.proofs.Frames.{Tracks, tracks, axis_reads, axis-Small}

-- ---- rows

pub even : (p : Pauli) → HasSign p → Even (quarter p)
even p h = Even-mod (quarter p) (quarter-lt p) (sign_quarter p h)

of_quarter : (w : Row) → w.r < 2 → quarter (of_row w) ≡ 2 * w.r
unfolding of_row quarter
of_quarter w h =
    m4_low _ _ (m4_cancel _ (2 * w.r) n (quarter_whole ((2 * w.r + n) % 4) n ∙ m4_mod (2 * w.r + n))) (mod-lt _ (lit< tt)) (omega arith)
  where
    n : ℕ
    n = count (bit_and w.x w.z)

-- a row of theirs is one of ours with a sign, and reading it back gives it again
pub theirs_and_back : (w : Row) → w.r < 2 → HasSign (of_row w) × ((of_row w).phase < 4) × (to_row (of_row w) ≡ w)
theirs_and_back w h = (has_sign (of_row w) (ap (λ (k : ℕ). k % 2) whole ∙ twice w.r), (unfold of_row in mod-lt _ (lit< tt)), back)
  where
    twice : (r : ℕ) → 2 * r % 2 ≡ 0
    twice r = omega arith

    half : (r : ℕ) → 2 * r / 2 ≡ r
    half r = omega arith

    whole : quarter (of_row w) ≡ 2 * w.r
    whole = of_quarter w h

    back : to_row (of_row w) ≡ w
    back = unfold to_row of_row in λ i. record { r = (ap (λ (k : ℕ). k / 2) whole ∙ half w.r) i; x = w.x; z = w.z }

-- a row of ours with a sign is one of theirs, and reading it back gives it again
pub ours_and_back : (p : Pauli) → p.phase < 4 → HasSign p → ((to_row p).r < 2) × (of_row (to_row p) ≡ p)
unfolding to_row of_row
ours_and_back p l h = (low (quarter p) (quarter-lt p), λ i. record { phase = line i; x = p.x; z = p.z })
  where
    n : ℕ
    n = count (bit_and p.x p.z)

    low : (q : ℕ) → q < 4 → q / 2 < 2
    low q h = omega arith

    double : (q : ℕ) → Even q → 2 * (q / 2) ≡ q
    double q (inl e) = rw e
    double q (inr e) = rw e

    small : (f : ℕ) → f < 4 → f % 4 ≡ f
    small f h = omega arith

    line : (2 * (quarter p / 2) + n) % 4 ≡ p.phase
    line = ap (λ (q : ℕ). (q + n) % 4) (double (quarter p) (even p h)) ∙ whole ∙ small p.phase l
      where
        whole : (quarter p + n) % 4 ≡ p.phase % 4
        whole = unfold quarter in quarter_whole p.phase n

-- the sign is (-1)^r
pub same_sign : (p : Pauli) → HasSign p → sign p ≡ row_sign (to_row p).r
unfolding sign sign_of to_row row_sign
same_sign p h = go (quarter p) (even p h)
  where
    go : (q : ℕ) → Even q → sign_of q ≡ row_sign (q / 2)
    go q (inl e) = rw e
    go q (inr e) = rw e

-- ---- gates

-- an axis through gates, row for row
pub through_gates : (n : ℕ) (fs : List Gate) (kind : Kind) (q : ℕ) → AllFit n fs → q < n
    → axis paulis kind q (gates fs (fresh n)) ≡ of_row (run (inverse (circuits fs)) (single kind q))
through_gates n fs kind q h u =
    let p : Pauli = axis paulis kind q (gates fs (fresh n)) in
    let r : (to_row p ≡ run (inverse (circuits fs)) (single kind q)) × Even (quarter p) = axis_reads n fs kind q h u in
    sym (ours_and_back p (axis-Small n fs kind q).phase_small (has_sign p (mod-Even (quarter p) r.1))).1 ∙ ap of_row r.0

pub gate_images : (n : ℕ) (f : Gate) (q : ℕ) → Fits n f → q < n
    → (x_at paulis (gate paulis f (fresh n)) q ≡ of_row (run (inverse (circuit f)) (single kind_x q)))
    × (z_at paulis (gate paulis f (fresh n)) q ≡ of_row (run (inverse (circuit f)) (single kind_z q)))
unfolding axis gates circuits
gate_images n f q h u = (
  through_gates n (f ∷ []) kind_x q (h, tt) u ∙ ap (λ (c : List Step). of_row (run (inverse c) (single kind_x q))) (append-nil (circuit f)),
  through_gates n (f ∷ []) kind_z q (h, tt) u ∙ ap (λ (c : List Step). of_row (run (inverse c) (single kind_z q))) (append-nil (circuit f)),
)

-- ---- frames

pub frames_are_theirs : (o : Opening) (cs : List Lent) (kind : Kind) (q : ℕ) → q < (calls cs (opened o)).given.n
    → axis paulis kind q (calls cs (opened o)).frame ≡ of_row (carried o cs kind q)
unfolding carried
frames_are_theirs o cs kind q h =
    let t : Tracks (applied cs (opened o) []) (calls cs (opened o)) = tracks o cs in
    ap (axis paulis kind q) t.rows ∙ through_gates (calls cs (opened o)).given.n (applied cs (opened o) []) kind q t.fits h

-- hence its sign is (-1)^r,
pub axis-sign : (o : Opening) (cs : List Lent) (kind : Kind) (q : ℕ) → q < (calls cs (opened o)).given.n
    → sign (axis paulis kind q (calls cs (opened o)).frame) ≡ row_sign (carried o cs kind q).r
unfolding carried
axis-sign o cs kind q h =
    let t : Tracks (applied cs (opened o) []) (calls cs (opened o)) = tracks o cs in
    let p : Pauli = axis paulis kind q (gates (applied cs (opened o) []) (fresh (calls cs (opened o)).given.n)) in
    let r : (to_row p ≡ run (inverse (circuits (applied cs (opened o) []))) (single kind q)) × Even (quarter p)
    = axis_reads (calls cs (opened o)).given.n (applied cs (opened o) []) kind q t.fits h in
    ap (λ (f : Rows Pauli). sign (axis paulis kind q f)) t.rows ∙ same_sign p (has_sign p (mod-Even (quarter p) r.1)) ∙ ap (λ (w : Row). row_sign w.r) r.0
