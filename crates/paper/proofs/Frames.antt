-- After any calls, each row and each axis of our frame is the paper's update, by the inverses of the gates applied, the last one first. Assumes nothing.
use Prim.Native.Nat.{ℕ, ◌+◌, ◌-◌, ◌/◌, ◌%◌, ◌^◌, ◌<◌}
use mathlib.Core.Path.{◌≡◌, refl, sym, ap, ◌∙◌, subst}
use mathlib.Core.Logic.{inl}
use mathlib.Core.Bool.{Bool, true, false, cond}
use mathlib.Core.List.{List, [], ◌∷◌, ◌++◌, map, append_assoc, append-nil}
use lib.Bits.{and_zero_r, and_self, xor_zero_r}
use lib.Dec.{eqb}
use borrow.Author.Tests.{eqb-true}
use Rattle.model.specs.Pauli.{Pauli, count, times, shift, quarter}
use Rattle.model.specs.Frame.{Rows, Kind, kind_x, kind_y, kind_z, kind_p, Gate, h_gate, s_gate, sdg_gate, gate_h, gate_s, gate, turn_z, turn, axis, paulis, pauli_x, pauli_z, fresh}
use Rattle.model.specs.Events.{Opening, State, record1, kill, clear}
use Rattle.model.specs.Calls.{opened, opening, Call, call_open, call_gate, call_turn, call_record, call_measure, call_reset, call_ccx, call_ccz, call_kill, call_read, call_clear, call_look, Lent, answer_to, gate_qubits, reframed, effect, call, calls}
use Rattle.model.proofs.Counts.{count_zero, count_one}
use Rattle.model.proofs.Products.{Even}
use Rattle.model.proofs.Invariant.{fresh_x, fresh_z}
use Rattle.model.proofs.Labels.{map_rows, map_axis}
use Rattle.model.specs.Demands.{Small}
use Rattle.model.proofs.Within.{Within, Within-gate, Within-axis, Within-fresh}
use Rattle.model.proofs.Good.{Passed, passed, gate_Fits, inside_Mem}
use Rattle.model.proofs.Stay.{record_given, record_frame}
use Rattle.paper.specs.Tableau.{Step, run, undo, inverse}
use Rattle.paper.specs.Bridge.{to_row, single, circuit, circuits, gates, AllFit, about_z, turn_gates, heard, applied}
use Rattle.paper.proofs.Conjugate.{conj, AllApart, conj_reads, conj-Even, conj-times, conj-shift, conj-plain}
use Rattle.paper.proofs.Gates.{Image, apart_append, gate_apart, gate_image}

-- ---- gates one after the other

inverse-append : (a b : List Step) → inverse (a ++ b) ≡ inverse b ++ inverse a
unfolding inverse
inverse-append [] b = sym (append-nil (inverse b))
inverse-append (s ∷ a) b = ap (λ (w : List Step). w ++ undo s) (inverse-append a b) ∙ append_assoc (inverse b) (inverse a) (undo s)

gates-append : (a b : List Gate) (r : Rows Pauli) → gates (a ++ b) r ≡ gates b (gates a r)
unfolding gates
gates-append [] b r = refl
gates-append (f ∷ a) b r = gates-append a b (gate paulis f r)

fit_append : (n : ℕ) (a b : List Gate) → AllFit n a → AllFit n b → AllFit n (a ++ b)
fit_append n [] b h k = k
fit_append n (f ∷ a) b h k = (h.0, fit_append n a b h.1 k)

images : (n : ℕ) (fs : List Gate) (c : List Step) → AllApart c → AllFit n fs → gates fs (Image n c) ≡ Image n (inverse (circuits fs) ++ c)
unfolding gates circuits inverse
images n [] c d h = refl
images n (f ∷ fs) c d h =
    ap (gates fs) (gate_image n f c d h.0)
    ∙ images n fs (inverse (circuit f) ++ c) (apart_append (inverse (circuit f)) c (gate_apart n f h.0) d) h.1
    ∙ ap (Image n) (sym (ap (λ (w : List Step). w ++ c) (inverse-append (circuit f) (circuits fs)) ∙ append_assoc (inverse (circuits fs)) (inverse (circuit f)) c))

all_apart : (n : ℕ) (fs : List Gate) → AllFit n fs → AllApart (inverse (circuits fs))
unfolding circuits inverse
all_apart n [] h = tt
all_apart n (f ∷ fs) h =
    subst AllApart (sym (inverse-append (circuit f) (circuits fs))) (apart_append (inverse (circuits fs)) (inverse (circuit f)) (all_apart n fs h.1) (gate_apart n f h.0))

map_id : (n : ℕ) → Image n [] ≡ fresh n
unfolding conj map_rows
map_id n = λ i. record { xs = same (fresh n).xs i; zs = same (fresh n).zs i }
  where
    same : (s : List Pauli) → map (λ p. p) s ≡ s
    same [] = refl
    same (p ∷ s) = ap {B = List Pauli} (λ t. p ∷ t) (same s)

pub gates_image : (n : ℕ) (fs : List Gate) → AllFit n fs → gates fs (fresh n) ≡ Image n (inverse (circuits fs))
gates_image n fs h = ap (gates fs) (sym (map_id n)) ∙ images n fs [] tt h ∙ ap (Image n) (append-nil (inverse (circuits fs)))

-- ---- turns

pick : (t : Bool) (a b : List Gate) (r u v : Rows Pauli) → u ≡ gates a r → v ≡ gates b r → cond t u v ≡ gates (cond t a b) r
pick true a b r u v e f = e
pick false a b r u v e f = f

about_gates : (k q : ℕ) (r : Rows Pauli) → turn_z paulis k q r ≡ gates (about_z k q) r
unfolding turn_z about_z gates gate
about_gates k q r = pick (eqb k 2) _ _ r _ _ refl (pick (eqb k 4) _ _ r _ _ refl (pick (eqb k 6) _ _ r _ _ refl refl))

turn_gates_lem : (kind : Kind) (k q : ℕ) (r : Rows Pauli) → turn paulis kind k q r ≡ gates (turn_gates kind k q) r
unfolding turn turn_gates gates gate
turn_gates_lem kind_x k q r =
    ap (gate_h paulis q) (about_gates k q (gate_h paulis q r)) ∙ sym (gates-append (about_z k q) (h_gate q ∷ []) (gate_h paulis q r))
turn_gates_lem kind_y k q r =
    ap (λ (w : Rows Pauli). gate_s paulis 3 q (gate_h paulis q w)) (about_gates k q (gate_h paulis q (gate_s paulis 1 q r)))
    ∙ sym (gates-append (about_z k q) (h_gate q ∷ s_gate q ∷ []) (gate_h paulis q (gate_s paulis 1 q r)))
turn_gates_lem kind_z k q r = about_gates k q r
turn_gates_lem kind_p k q r = about_gates k q r

about_fit : (n k q : ℕ) → q < n → AllFit n (about_z k q)
unfolding about_z
about_fit n k q h = choose (eqb k 2) _ _ (h, tt) (choose (eqb k 4) _ _ (h, tt) (choose (eqb k 6) (sdg_gate q ∷ []) [] (h, tt) tt))
  where
    choose : (t : Bool) (a b : List Gate) → AllFit n a → AllFit n b → AllFit n (cond t a b)
    choose true a b u v = u
    choose false a b u v = v

turn_fit : (n : ℕ) (kind : Kind) (k q : ℕ) → q < n → AllFit n (turn_gates kind k q)
unfolding turn_gates
turn_fit n kind_x k q h = (h, fit_append n (about_z k q) (h_gate q ∷ []) (about_fit n k q h) (h, tt))
turn_fit n kind_y k q h = (h, (h, fit_append n (about_z k q) (h_gate q ∷ s_gate q ∷ []) (about_fit n k q h) (h, (h, tt))))
turn_fit n kind_z k q h = about_fit n k q h
turn_fit n kind_p k q h = about_fit n k q h

-- ---- calls

-- the state's frame is the fresh one through these gates
pub record Tracks (fs : List Gate) (s : State) : Type 0 where
  pub fits : AllFit s.given.n fs
  pub rows : s.frame ≡ gates fs (fresh s.given.n)

-- a call that touches neither the opening nor the frame
still : (fs : List Gate) (s t : State) → t.given ≡ s.given → t.frame ≡ s.frame → Tracks fs s → Tracks fs t
still fs s t e f k = record {
  fits = subst (λ (o : Opening). AllFit o.n fs) (sym e) k.fits;
  rows = f ∙ k.rows ∙ ap (λ (o : Opening). gates fs (fresh o.n)) (sym e);
}

Tracks-after : (c : Call) (w : ℕ) (s : State) (fs : List Gate) → answer_to c w s ≡ 0 → Tracks fs s → Tracks (heard c fs) (effect c w s)
unfolding effect heard answer_to
Tracks-after (call_open n E A form ws) w s fs h k = record { fits = tt; rows = (unfold opened opening gates in refl) }
Tracks-after (call_gate f) w s fs h k =
    let a : Passed s w (gate_qubits f) 0 false = passed s w 0 (gate_qubits f) 0 false h in
    record {
      fits = (unfold reframed in fit_append s.given.n fs (f ∷ []) k.fits (gate_Fits s.given.n f a.inside a.differ, tt));
      rows = (unfold reframed gates in ap (gate paulis f) k.rows ∙ sym (gates-append fs (f ∷ []) (fresh s.given.n)));
    }
Tracks-after (call_turn kind m q) w s fs h k =
    let a : Passed s w (q ∷ []) 0 false = passed s w m (q ∷ []) 0 false h in
    record {
      fits = (unfold reframed in fit_append s.given.n fs (turn_gates kind m q) k.fits (turn_fit s.given.n kind m q (inside_Mem s.given.n q (q ∷ []) a.inside (inl refl))));
      rows = (unfold reframed in ap (turn paulis kind m q) k.rows ∙ turn_gates_lem kind m q (gates fs (fresh s.given.n)) ∙ sym (gates-append fs (turn_gates kind m q) (fresh s.given.n)));
    }
Tracks-after (call_record kind q tag) w s fs h k = still fs s _ (unfold record1 in refl) (unfold record1 in refl) k
Tracks-after (call_measure q) w s fs h k = still fs s _ (unfold record1 in refl) (unfold record1 in refl) k
Tracks-after (call_reset q) w s fs h k = still fs s _ (record_given _ s) (record_frame _ s) k
Tracks-after (call_ccx a b t) w s fs h k = still fs s _ (record_given _ s) (record_frame _ s) k
Tracks-after (call_ccz a b t) w s fs h k = still fs s _ (record_given _ s) (record_frame _ s) k
Tracks-after (call_kill id) w s fs h k = still fs s _ (unfold kill in refl) (unfold kill in refl) k
Tracks-after (call_read id) w s fs h k = k
Tracks-after call_clear w s fs h k = still fs s _ (unfold clear in refl) (unfold clear in refl) k
Tracks-after (call_look kind q) w s fs h k = k

Tracks-call : (c : Call) (w : ℕ) (s : State) (fs : List Gate) → Tracks fs s → Tracks (cond (eqb (answer_to c w s) 0) (heard c fs) fs) (call c w s)
unfolding call
Tracks-call c w s fs k = go (eqb (answer_to c w s) 0) refl
  where
    go : (t : Bool) → eqb (answer_to c w s) 0 ≡ t → Tracks (cond t (heard c fs) fs) (cond t (effect c w s) s)
    go true e = Tracks-after c w s fs (eqb-true (answer_to c w s) 0 e) k
    go false e = k

Tracks-calls : (cs : List Lent) (s : State) (fs : List Gate) → Tracks fs s → Tracks (applied cs s fs) (calls cs s)
unfolding applied calls
Tracks-calls [] s fs k = k
Tracks-calls (c ∷ cs) s fs k = Tracks-calls cs (call c.call c.store s) _ (Tracks-call c.call c.store s fs k)

pub tracks : (o : Opening) (cs : List Lent) → Tracks (applied cs (opened o) []) (calls cs (opened o))
tracks o cs = Tracks-calls cs (opened o) [] (record { fits = tt; rows = (unfold opened gates in refl) })

-- ---- readings

-- a row that has no phase left
plus_row : (p : Pauli) → quarter p ≡ 0 → to_row p ≡ record { r = 0; x = p.x; z = p.z }
unfolding to_row
plus_row p e = λ i. record { r = (ap (λ (w : ℕ). w / 2) e) i; x = p.x; z = p.z }

x_quarter : (q : ℕ) → quarter (pauli_x q) ≡ 0
unfolding quarter pauli_x
x_quarter q = ap (λ (w : ℕ). (0 + 4 - count w % 4) % 4) (and_zero_r (2 ^ q)) ∙ ap (λ (w : ℕ). (0 + 4 - w % 4) % 4) count_zero

z_quarter : (q : ℕ) → quarter (pauli_z q) ≡ 0
unfolding quarter pauli_z
z_quarter q = ap (λ (w : ℕ). (0 + 4 - w % 4) % 4) count_zero

unfoldable pauli_y : ℕ → Pauli
pauli_y q = record { phase = 1; x = 2 ^ q; z = 2 ^ q }

y_product : (q : ℕ) → shift 1 (times (pauli_x q) (pauli_z q)) ≡ pauli_y q
unfolding shift times pauli_x pauli_z pauli_y count
y_product q = λ i. record { phase = 1; x = xor_zero_r (2 ^ q) i; z = 2 ^ q }

y_quarter : (q : ℕ) → quarter (pauli_y q) ≡ 0
unfolding quarter pauli_y
y_quarter q = ap (λ (w : ℕ). (1 + 4 - count w % 4) % 4) (and_self (2 ^ q)) ∙ ap (λ (w : ℕ). (1 + 4 - w % 4) % 4) (count_one q)

-- the axes of the fresh frame
fresh-axis : (n : ℕ) (kind : Kind) (q : ℕ) → q < n → (quarter (axis paulis kind q (fresh n)) ≡ 0) × (to_row (axis paulis kind q (fresh n)) ≡ single kind q)
unfolding axis paulis single
fresh-axis n kind_x q h = rw (fresh_x n q h) (x_quarter q, (unfold pauli_x in plus_row (pauli_x q) (x_quarter q)))
fresh-axis n kind_y q h = rw (fresh_x n q h, fresh_z n q h, y_product q) (y_quarter q, (unfold pauli_y in plus_row (pauli_y q) (y_quarter q)))
fresh-axis n kind_z q h = rw (fresh_z n q h) (z_quarter q, (unfold pauli_z in plus_row (pauli_z q) (z_quarter q)))
fresh-axis n kind_p q h = rw (fresh_z n q h) (z_quarter q, (unfold pauli_z in plus_row (pauli_z q) (z_quarter q)))

-- an axis of the frame through gates, as the paper has it
pub axis_reads : (n : ℕ) (fs : List Gate) (kind : Kind) (q : ℕ) → AllFit n fs → q < n
    → (to_row (axis paulis kind q (gates fs (fresh n))) ≡ run (inverse (circuits fs)) (single kind q)) × Even (quarter (axis paulis kind q (gates fs (fresh n))))
unfolding paulis
axis_reads n fs kind q h u = rw (image) (
  conj_reads c p d (inl (fresh-axis n kind q u).0) ∙ ap (run c) (fresh-axis n kind q u).1,
  conj-Even c p d (inl (fresh-axis n kind q u).0),
)
  where
    c : List Step
    c = inverse (circuits fs)

    d : AllApart c
    d = all_apart n fs h

    p : Pauli
    p = axis paulis kind q (fresh n)

    image : axis paulis kind q (gates fs (fresh n)) ≡ conj c p
    image = ap (axis paulis kind q) (gates_image n fs h) ∙ sym (map_axis paulis paulis (conj c) (conj-times c d) (conj-shift c) (conj-plain c) kind q (fresh n))

-- its phase is 0 to 3, and its sets are of the n qubits
gates-Within : (n : ℕ) (fs : List Gate) (r : Rows Pauli) → Within n r → Within n (gates fs r)
unfolding gates
gates-Within n [] r w = w
gates-Within n (f ∷ fs) r w = gates-Within n fs (gate paulis f r) (Within-gate n f r w)

pub axis-Small : (n : ℕ) (fs : List Gate) (kind : Kind) (q : ℕ) → Small n (axis paulis kind q (gates fs (fresh n)))
axis-Small n fs kind q = Within-axis n kind q (gates fs (fresh n)) (gates-Within n fs (fresh n) (Within-fresh n))
