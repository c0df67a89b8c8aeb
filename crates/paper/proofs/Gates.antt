-- Every gate of 01 carries the fresh frame to the images under the paper's update by its inverse, and so does a row of gates. Assumes nothing.
use Prim.Native.Nat.{ℕ, ◌+◌, ◌*◌, ◌%◌, ◌^◌, ◌<◌}
use mathlib.Core.Path.{◌≡◌, refl, sym, ap, ap₂, ◌∙◌, fun_ext}
use mathlib.Core.Logic.{◌≢◌, ◌⊎◌, inl, inr}
use mathlib.Core.List.{List, [], ◌∷◌, ◌++◌}
use native.Mathlib.Omega.{arith}
use native.Mathlib.Decide.{ℕ_discrete}
use native.Mathlib.Nat.{mod-lt}
use lib.Bits.{bit_xor, and_zero_r, xor_zero_r, xor_comm, xor_self}
use lib.ListN.{length, length-map}
use lib.Seq.{ext_get_or}
use lib.Dec.{lit<}
use Rattle.model.specs.Pauli.{Pauli, has, count, times, shift}
use Rattle.model.specs.Frame.{Rows, Gate, h_gate, x_gate, y_gate, z_gate, s_gate, sdg_gate, sx_gate, cnot_gate, cz_gate, swap_gate, cy_gate, x_at, z_at, gate_h, gate_s, gate_z, gate_x, gate_cnot, gate_cz, gate_swap, gate, paulis, pauli_x, pauli_z, fresh}
use Rattle.model.specs.Demands.{Fits}
use Rattle.model.proofs.Counts.{count_zero, xor_assoc}
use Rattle.model.proofs.Digits.{has_zero, has-pow, has-pow_other, on_pair, toggle, toggle_zero, toggle_one, has_lone, lone_xor}
use Rattle.model.proofs.Invariant.{put, put_x, put_z, put_x_other, put_z_other, put-xs, put-zs, h_put, s_put, z_put, x_put, cz_put, cnot_put, swap_put, fresh_x, fresh_z, Sound-fresh}
use Rattle.model.proofs.Labels.{map_rows, map_gate, map-map, at_x, at_z}
use Rattle.paper.specs.Tableau.{Step, cnot, hadamard, phase, undo, inverse}
use Rattle.paper.specs.Bridge.{circuit}
use Rattle.paper.proofs.Conjugate.{conj_step, conj, AllApart, Step-times, conj-times, conj-shift, conj-plain, conj-append}

-- ---- steps on one qubit: a row with digits x and z at a place, and nothing elsewhere

unfoldable pub placed : ℕ → Pauli → Pauli
placed a p = record { phase = p.phase; x = p.x * 2 ^ a; z = p.z * 2 ^ a }

-- what a step does to the digits
unfoldable pub spin : Step → Pauli → Pauli
spin (hadamard a) p = record { phase = (p.phase + 2 * (p.x * p.z)) % 4; x = p.z; z = p.x }
spin (phase a) p = record { phase = (p.phase + p.x) % 4; x = p.x; z = (p.z + p.x) % 2 }
spin (cnot a b) p = p

unfoldable pub spins : List Step → Pauli → Pauli
spins [] p = p
spins (s ∷ ss) p = spins ss (spin s p)

-- every step is on qubit a
abbrev Only : ℕ → List Step → Type 0
Only a [] = Unit {0}
Only a (hadamard b ∷ c) = (b ≡ a) × Only a c
Only a (phase b ∷ c) = (b ≡ a) × Only a c
Only a (cnot b d ∷ c) = ⊥

exchanged : (x z : ℕ) → x < 2 → z < 2 → ((x + (x + z) % 2) % 2 ≡ z) × ((z + (x + z) % 2) % 2 ≡ x)
exchanged = on_pair (λ x z. ((x + (x + z) % 2) % 2 ≡ z) × ((z + (x + z) % 2) % 2 ≡ x)) (refl, refl) (refl, refl) (refl, refl) (refl, refl)

h_spin : (a : ℕ) (p : Pauli) → p.x < 2 → p.z < 2 → conj_step (hadamard a) (placed a p) ≡ placed a (spin (hadamard a) p)
unfolding conj_step placed spin toggle
h_spin a p hx hz =
    ap₂ (λ (u v : ℕ). record { phase = (p.phase + 2 * (u * v)) % 4; x = bit_xor (p.x * 2 ^ a) ((u + v) % 2 * 2 ^ a); z = bit_xor (p.z * 2 ^ a) ((u + v) % 2 * 2 ^ a) })
    (has_lone p.x a hx) (has_lone p.z a hz)
    ∙ λ i. record { phase = (p.phase + 2 * (p.x * p.z)) % 4; x = left i; z = right i }
  where
    t_lt : (p.x + p.z) % 2 < 2
    t_lt = mod-lt _ (lit< tt)

    left : bit_xor (p.x * 2 ^ a) ((p.x + p.z) % 2 * 2 ^ a) ≡ p.z * 2 ^ a
    left = sym (lone_xor a p.x ((p.x + p.z) % 2) hx t_lt) ∙ ap (λ (w : ℕ). w * 2 ^ a) (exchanged p.x p.z hx hz).0

    right : bit_xor (p.z * 2 ^ a) ((p.x + p.z) % 2 * 2 ^ a) ≡ p.x * 2 ^ a
    right = sym (lone_xor a p.z ((p.x + p.z) % 2) hz t_lt) ∙ ap (λ (w : ℕ). w * 2 ^ a) (exchanged p.x p.z hx hz).1

p_spin : (a : ℕ) (p : Pauli) → p.x < 2 → p.z < 2 → conj_step (phase a) (placed a p) ≡ placed a (spin (phase a) p)
unfolding conj_step placed spin toggle
p_spin a p hx hz =
    ap (λ (u : ℕ). record { phase = (p.phase + u) % 4; x = p.x * 2 ^ a; z = bit_xor (p.z * 2 ^ a) (u * 2 ^ a) }) (has_lone p.x a hx)
    ∙ λ i. record { phase = (p.phase + p.x) % 4; x = p.x * 2 ^ a; z = sym (lone_xor a p.z p.x hz hx) i }

pub conj-spins : (a : ℕ) (c : List Step) (p : Pauli) → Only a c → p.x < 2 → p.z < 2 → conj c (placed a p) ≡ placed a (spins c p)
unfolding conj spins spin
conj-spins a [] p o hx hz = refl
conj-spins a (hadamard b ∷ c) p o hx hz =
    ap (λ (w : ℕ). conj c (conj_step (hadamard w) (placed a p))) o.0 ∙ ap (conj c) (h_spin a p hx hz) ∙ conj-spins a c (spin (hadamard a) p) o.1 hz hx
conj-spins a (phase b ∷ c) p o hx hz =
    ap (λ (w : ℕ). conj c (conj_step (phase w) (placed a p))) o.0 ∙ ap (conj c) (p_spin a p hx hz) ∙ conj-spins a c (spin (phase a) p) o.1 hx (mod-lt _ (lit< tt))
conj-spins a (cnot b d ∷ c) p o hx hz = absurd o

unfoldable pub lone : (f x z : ℕ) → Pauli
lone f x z = record { phase = f; x = x; z = z }

one_times : (k : ℕ) → 1 * k ≡ k
one_times k = omega arith

zero_times : (k : ℕ) → 0 * k ≡ 0
zero_times k = omega arith

pub x_placed : (q : ℕ) → pauli_x q ≡ placed q (lone 0 1 0)
unfolding pauli_x placed lone
x_placed q = sym (λ i. record { phase = 0; x = one_times (2 ^ q) i; z = zero_times (2 ^ q) i })

z_placed : (q : ℕ) → pauli_z q ≡ placed q (lone 0 0 1)
unfolding pauli_z placed lone
z_placed q = sym (λ i. record { phase = 0; x = zero_times (2 ^ q) i; z = one_times (2 ^ q) i })

pub xz_placed : (k q : ℕ) → shift k (times (pauli_x q) (pauli_z q)) ≡ placed q (lone (k % 4) 1 1)
unfolding pauli_x pauli_z placed lone shift times count
xz_placed k q = λ i. record {
  phase = line k i;
  x = (xor_zero_r (2 ^ q) ∙ sym (one_times (2 ^ q))) i;
  z = sym (one_times (2 ^ q)) i;
}
  where
    line : (k : ℕ) → (0 + k) % 4 ≡ k % 4
    line k = omega arith

-- ---- steps on other qubits

-- every step's qubits are a or b
abbrev Inside : (a b : ℕ) → List Step → Type 0
Inside a b [] = Unit {0}
Inside a b (hadamard k ∷ c) = ((k ≡ a) ⊎ (k ≡ b)) × Inside a b c
Inside a b (phase k ∷ c) = ((k ≡ a) ⊎ (k ≡ b)) × Inside a b c
Inside a b (cnot k m ∷ c) = ((k ≡ a) ⊎ (k ≡ b)) × ((m ≡ a) ⊎ (m ≡ b)) × Inside a b c

-- a row has no digit at a or b
record Off (a b : ℕ) (p : Pauli) : Type 0 where
  xa : has p.x a ≡ 0
  za : has p.z a ≡ 0
  xb : has p.x b ≡ 0
  zb : has p.z b ≡ 0
  low : p.phase < 4

Off-x : (a b : ℕ) (p : Pauli) (k : ℕ) → Off a b p → (k ≡ a) ⊎ (k ≡ b) → has p.x k ≡ 0
Off-x a b p k o (inl e) = ap (has p.x) e ∙ o.xa
Off-x a b p k o (inr e) = ap (has p.x) e ∙ o.xb

Off-z : (a b : ℕ) (p : Pauli) (k : ℕ) → Off a b p → (k ≡ a) ⊎ (k ≡ b) → has p.z k ≡ 0
Off-z a b p k o (inl e) = ap (has p.z) e ∙ o.za
Off-z a b p k o (inr e) = ap (has p.z) e ∙ o.zb

low_phase : (f : ℕ) → f < 4 → (f + 0) % 4 ≡ f
low_phase f h = omega arith

idle : (a b : ℕ) (s : Step) (p : Pauli) → Inside a b (s ∷ []) → Off a b p → conj_step s p ≡ p
unfolding conj_step
idle a b (hadamard k) p i o =
    ap₂ (λ (u v : ℕ). record { phase = (p.phase + 2 * (u * v)) % 4; x = toggle p.x k ((u + v) % 2); z = toggle p.z k ((u + v) % 2) }) (Off-x a b p k o i.0) (Off-z a b p k o i.0)
    ∙ λ j. record { phase = low_phase p.phase o.low j; x = toggle_zero p.x k j; z = toggle_zero p.z k j }
idle a b (phase k) p i o =
    ap (λ (u : ℕ). record { phase = (p.phase + u) % 4; x = p.x; z = toggle p.z k u }) (Off-x a b p k o i.0)
    ∙ λ j. record { phase = low_phase p.phase o.low j; x = p.x; z = toggle_zero p.z k j }
idle a b (cnot k m) p i o =
    ap₂ (λ (u v : ℕ). record { phase = (p.phase + 0) % 4; x = toggle p.x m u; z = toggle p.z k v }) (Off-x a b p k o i.0) (Off-z a b p m o i.1)
    ∙ λ j. record { phase = low_phase p.phase o.low j; x = toggle_zero p.x m j; z = toggle_zero p.z k j }

conj_idle : (a b : ℕ) (c : List Step) (p : Pauli) → Inside a b c → Off a b p → conj c p ≡ p
unfolding conj
conj_idle a b [] p i o = refl
conj_idle a b (hadamard k ∷ c) p i o = ap (conj c) (idle a b (hadamard k) p (i.0, tt) o) ∙ conj_idle a b c p i.1 o
conj_idle a b (phase k ∷ c) p i o = ap (conj c) (idle a b (phase k) p (i.0, tt) o) ∙ conj_idle a b c p i.1 o
conj_idle a b (cnot k m ∷ c) p i o = ap (conj c) (idle a b (cnot k m) p (i.0, i.1, tt) o) ∙ conj_idle a b c p i.2 o

x_Off : (a b q : ℕ) → q ≢ a → q ≢ b → Off a b (pauli_x q)
unfolding pauli_x
x_Off a b q h k = record { xa = has-pow_other q a h; za = has_zero a; xb = has-pow_other q b k; zb = has_zero b; low = lit< tt }

z_Off : (a b q : ℕ) → q ≢ a → q ≢ b → Off a b (pauli_z q)
unfolding pauli_z
z_Off a b q h k = record { xa = has_zero a; za = has-pow_other q a h; xb = has_zero b; zb = has-pow_other q b k; low = lit< tt }

-- ---- a frame by its rows

module _ (n : ℕ) (c : List Step) (d : AllApart c) where
  pub image_x : (q : ℕ) → q < n → x_at paulis (map_rows (conj c) (fresh n)) q ≡ conj c (pauli_x q)
  unfolding paulis
  image_x q h = at_x paulis paulis (conj c) (conj-times c d) (conj-shift c) (conj-plain c) (fresh n) q ∙ ap (conj c) (fresh_x n q h)

  pub image_z : (q : ℕ) → q < n → z_at paulis (map_rows (conj c) (fresh n)) q ≡ conj c (pauli_z q)
  unfolding paulis
  image_z q h = at_z paulis paulis (conj c) (conj-times c d) (conj-shift c) (conj-plain c) (fresh n) q ∙ ap (conj c) (fresh_z n q h)

  rows_ext : (r : Rows Pauli) → length r.xs ≡ n → length r.zs ≡ n → ((q : ℕ) → q < n → x_at paulis r q ≡ conj c (pauli_x q))
      → ((q : ℕ) → q < n → z_at paulis r q ≡ conj c (pauli_z q)) → r ≡ map_rows (conj c) (fresh n)
  unfolding x_at z_at
  rows_ext r hx hz ex ez = λ i. record { xs = left i; zs = right i }
    where
      size_x : length (map_rows (conj c) (fresh n)).xs ≡ n
      size_x = unfold map_rows in length-map (fresh n).xs (conj c) ∙ (Sound-fresh n).x_length

      size_z : length (map_rows (conj c) (fresh n)).zs ≡ n
      size_z = unfold map_rows in length-map (fresh n).zs (conj c) ∙ (Sound-fresh n).z_length

      left : r.xs ≡ (map_rows (conj c) (fresh n)).xs
      left = ext_get_or paulis.unit r.xs (map_rows (conj c) (fresh n)).xs (hx ∙ sym size_x) (λ q h. ex q (omega arith) ∙ sym (image_x q (omega arith)))

      right : r.zs ≡ (map_rows (conj c) (fresh n)).zs
      right = ext_get_or paulis.unit r.zs (map_rows (conj c) (fresh n)).zs (hz ∙ sym size_z) (λ q h. ez q (omega arith) ∙ sym (image_z q (omega arith)))

  -- one qubit's rows are new
  rows_one : (a : ℕ) (x z : Pauli) → a < n → Inside a a c → x ≡ conj c (pauli_x a) → z ≡ conj c (pauli_z a) → put a x z (fresh n) ≡ map_rows (conj c) (fresh n)
  rows_one a x z h i ex ez =
      rows_ext (put a x z (fresh n)) (put-xs n (fresh n) lx lz a h x z) (put-zs n (fresh n) lx lz a h x z) (λ q u. go_x q u (ℕ_discrete q a)) (λ q u. go_z q u (ℕ_discrete q a))
    where
      lx : length (fresh n).xs ≡ n
      lx = (Sound-fresh n).x_length

      lz : length (fresh n).zs ≡ n
      lz = (Sound-fresh n).z_length

      go_x : (q : ℕ) → q < n → Dec (q ≡ a) → x_at paulis (put a x z (fresh n)) q ≡ conj c (pauli_x q)
      go_x q u (yes e) = rw e (put_x n (fresh n) lx lz a h x z ∙ ex)
      go_x q u (no e) = put_x_other n (fresh n) lx lz a h x z q e ∙ fresh_x n q u ∙ sym (conj_idle a a c (pauli_x q) i (x_Off a a q e e))

      go_z : (q : ℕ) → q < n → Dec (q ≡ a) → z_at paulis (put a x z (fresh n)) q ≡ conj c (pauli_z q)
      go_z q u (yes e) = rw e (put_z n (fresh n) lx lz a h x z ∙ ez)
      go_z q u (no e) = put_z_other n (fresh n) lx lz a h x z q e ∙ fresh_z n q u ∙ sym (conj_idle a a c (pauli_z q) i (z_Off a a q e e))

  -- two qubits' rows are new
  rows_two : (a b : ℕ) (x z y w : Pauli) → a < n → b < n → a ≢ b → Inside a b c → x ≡ conj c (pauli_x a) → z ≡ conj c (pauli_z a) → y ≡ conj c (pauli_x b)
      → w ≡ conj c (pauli_z b) → put b y w (put a x z (fresh n)) ≡ map_rows (conj c) (fresh n)
  rows_two a b x z y w h k ab i ex ez ey ew =
      rows_ext (put b y w mid) (put-xs n mid mx mz b k y w) (put-zs n mid mx mz b k y w) (λ q u. go_x q u (ℕ_discrete q b) (ℕ_discrete q a)) (λ q u. go_z q u (ℕ_discrete q b) (ℕ_discrete q a))
    where
      lx : length (fresh n).xs ≡ n
      lx = (Sound-fresh n).x_length

      lz : length (fresh n).zs ≡ n
      lz = (Sound-fresh n).z_length

      mid : Rows Pauli
      mid = put a x z (fresh n)

      mx : length mid.xs ≡ n
      mx = put-xs n (fresh n) lx lz a h x z

      mz : length mid.zs ≡ n
      mz = put-zs n (fresh n) lx lz a h x z

      go_x : (q : ℕ) → q < n → Dec (q ≡ b) → Dec (q ≡ a) → x_at paulis (put b y w mid) q ≡ conj c (pauli_x q)
      go_x q u (yes e) t = rw e (put_x n mid mx mz b k y w ∙ ey)
      go_x q u (no e) (yes t) = rw t (put_x_other n mid mx mz b k y w a ab ∙ put_x n (fresh n) lx lz a h x z ∙ ex)
      go_x q u (no e) (no t) =
          put_x_other n mid mx mz b k y w q e ∙ put_x_other n (fresh n) lx lz a h x z q t ∙ fresh_x n q u ∙ sym (conj_idle a b c (pauli_x q) i (x_Off a b q t e))

      go_z : (q : ℕ) → q < n → Dec (q ≡ b) → Dec (q ≡ a) → z_at paulis (put b y w mid) q ≡ conj c (pauli_z q)
      go_z q u (yes e) t = rw e (put_z n mid mx mz b k y w ∙ ew)
      go_z q u (no e) (yes t) = rw t (put_z_other n mid mx mz b k y w a ab ∙ put_z n (fresh n) lx lz a h x z ∙ ez)
      go_z q u (no e) (no t) =
          put_z_other n mid mx mz b k y w q e ∙ put_z_other n (fresh n) lx lz a h x z q t ∙ fresh_z n q u ∙ sym (conj_idle a b c (pauli_z q) i (z_Off a b q t e))

-- ---- gates on one qubit

-- the images of X_q and Z_q under a circuit on qubit q, by its digits
spun_x : (q : ℕ) (c : List Step) (f x z : ℕ) → Only q c → spins c (lone 0 1 0) ≡ lone f x z → conj c (pauli_x q) ≡ placed q (lone f x z)
spun_x q c f x z o e = ap (conj c) (x_placed q) ∙ conj-spins q c (lone 0 1 0) o (unfold lone in lit< tt) (unfold lone in lit< tt) ∙ ap (placed q) e

spun_z : (q : ℕ) (c : List Step) (f x z : ℕ) → Only q c → spins c (lone 0 0 1) ≡ lone f x z → conj c (pauli_z q) ≡ placed q (lone f x z)
spun_z q c f x z o e = ap (conj c) (z_placed q) ∙ conj-spins q c (lone 0 0 1) o (unfold lone in lit< tt) (unfold lone in lit< tt) ∙ ap (placed q) e

Only-apart : (a : ℕ) (c : List Step) → Only a c → AllApart c
Only-apart a [] o = tt
Only-apart a (hadamard b ∷ c) o = (tt, Only-apart a c o.1)
Only-apart a (phase b ∷ c) o = (tt, Only-apart a c o.1)
Only-apart a (cnot b d ∷ c) o = absurd o

Only-Inside : (a : ℕ) (c : List Step) → Only a c → Inside a a c
Only-Inside a [] o = tt
Only-Inside a (hadamard b ∷ c) o = (inl o.0, Only-Inside a c o.1)
Only-Inside a (phase b ∷ c) o = (inl o.0, Only-Inside a c o.1)
Only-Inside a (cnot b d ∷ c) o = absurd o

-- a gate that gives qubit q the rows x and z, which are what the circuit's digits say
local : (n q : ℕ) (c : List Step) (x z : Pauli) (f u v g y w : ℕ) → q < n → Only q c → spins c (lone 0 1 0) ≡ lone f u v → spins c (lone 0 0 1) ≡ lone g y w
    → x ≡ placed q (lone f u v) → z ≡ placed q (lone g y w) → put q x z (fresh n) ≡ map_rows (conj c) (fresh n)
local n q c x z f u v g y w h o ex ez px pz =
    rows_one n c (Only-apart q c o) q x z h (Only-Inside q c o) (px ∙ sym (spun_x q c f u v o ex)) (pz ∙ sym (spun_z q c g y w o ez))

twice_placed : (q x z : ℕ) → shift 2 (placed q (lone 0 x z)) ≡ placed q (lone 2 x z)
unfolding shift placed lone
twice_placed q x z = refl

module _ (n q : ℕ) (h : q < n) where
  as_x : x_at paulis (fresh n) q ≡ placed q (lone 0 1 0)
  as_x = fresh_x n q h ∙ x_placed q

  as_z : z_at paulis (fresh n) q ≡ placed q (lone 0 0 1)
  as_z = fresh_z n q h ∙ z_placed q

  as_xz : (k : ℕ) → shift k (times (x_at paulis (fresh n) q) (z_at paulis (fresh n) q)) ≡ placed q (lone (k % 4) 1 1)
  as_xz k = ap₂ (λ (u v : Pauli). shift k (times u v)) (fresh_x n q h) (fresh_z n q h) ∙ xz_placed k q

  fresh-h_gate : gate_h paulis q (fresh n) ≡ map_rows (conj (inverse (circuit (h_gate q)))) (fresh n)
  unfolding inverse undo circuit spins spin lone
  fresh-h_gate = sym (h_put q (fresh n)) ∙ local n q (inverse (circuit (h_gate q))) _ _ 0 0 1 0 1 0 h (refl, tt) refl refl as_z as_x

  fresh-s_gate : gate_s paulis 3 q (fresh n) ≡ map_rows (conj (inverse (circuit (s_gate q)))) (fresh n)
  unfolding inverse undo circuit spins spin lone
  fresh-s_gate = sym (s_put 3 q (fresh n)) ∙ local n q (inverse (circuit (s_gate q))) _ _ 3 1 1 0 0 1 h (refl, (refl, (refl, tt))) refl refl (as_xz 3) as_z

  fresh-sdg_gate : gate_s paulis 1 q (fresh n) ≡ map_rows (conj (inverse (circuit (sdg_gate q)))) (fresh n)
  unfolding inverse undo circuit spins spin lone
  fresh-sdg_gate =
      sym (s_put 1 q (fresh n))
      ∙ local n q (inverse (circuit (sdg_gate q))) _ _ 1 1 1 0 0 1 h (refl, (refl, (refl, (refl, (refl, (refl, (refl, (refl, (refl, tt))))))))) refl refl (as_xz 1) as_z

  fresh-z_gate : gate_z paulis q (fresh n) ≡ map_rows (conj (inverse (circuit (z_gate q)))) (fresh n)
  unfolding inverse undo circuit spins spin lone
  fresh-z_gate =
      sym (z_put q (fresh n))
      ∙ local n q (inverse (circuit (z_gate q))) _ _ 2 1 0 0 0 1 h (refl, (refl, (refl, (refl, (refl, (refl, tt)))))) refl refl (ap (shift 2) as_x ∙ twice_placed q 1 0) as_z

  fresh-x_gate : gate_x paulis q (fresh n) ≡ map_rows (conj (inverse (circuit (x_gate q)))) (fresh n)
  unfolding inverse undo circuit spins spin lone
  fresh-x_gate =
      sym (x_put q (fresh n))
      ∙ local n q (inverse (circuit (x_gate q))) _ _ 0 1 0 2 0 1 h (refl, (refl, (refl, (refl, (refl, (refl, (refl, (refl, tt)))))))) refl refl as_x (ap (shift 2) as_z ∙ twice_placed q 0 1)

-- ---- gates on two qubits

module _ (a b : ℕ) (ab : a ≢ b) where
  -- CNOT on the four rows
  cnot_xa : conj_step (cnot a b) (pauli_x a) ≡ times (pauli_x a) (pauli_x b)
  unfolding conj_step pauli_x times count
  cnot_xa = λ i. record { phase = 0; x = (ap (toggle (2 ^ a) b) (has-pow a) ∙ toggle_one (2 ^ a) b) i; z = (ap (toggle 0 a) (has_zero b) ∙ toggle_zero 0 a) i }

  cnot_xb : conj_step (cnot a b) (pauli_x b) ≡ pauli_x b
  unfolding conj_step pauli_x
  cnot_xb = λ i. record { phase = 0; x = (ap (toggle (2 ^ b) b) (has-pow_other b a (λ e. ab (sym e))) ∙ toggle_zero (2 ^ b) b) i; z = (ap (toggle 0 a) (has_zero b) ∙ toggle_zero 0 a) i }

  cnot_za : conj_step (cnot a b) (pauli_z a) ≡ pauli_z a
  unfolding conj_step pauli_z
  cnot_za = λ i. record { phase = 0; x = (ap (toggle 0 b) (has_zero a) ∙ toggle_zero 0 b) i; z = (ap (toggle (2 ^ a) a) (has-pow_other a b ab) ∙ toggle_zero (2 ^ a) a) i }

  cnot_zb : conj_step (cnot a b) (pauli_z b) ≡ times (pauli_z b) (pauli_z a)
  unfolding conj_step pauli_z times
  cnot_zb = λ i. record {
    phase = sym (ap (λ (w : ℕ). (0 + 0 + 2 * (count w % 2)) % 4) (and_zero_r (2 ^ b)) ∙ ap (λ (w : ℕ). (0 + 0 + 2 * (w % 2)) % 4) count_zero) i;
    x = (ap (toggle 0 b) (has_zero a) ∙ toggle_zero 0 b) i;
    z = (ap (toggle (2 ^ b) a) (has-pow b) ∙ toggle_one (2 ^ b) a) i;
  }

-- Hadamard on its own rows, and on those of another qubit
h_x : (a : ℕ) → conj_step (hadamard a) (pauli_x a) ≡ pauli_z a
unfolding spin lone
h_x a = ap (conj_step (hadamard a)) (x_placed a) ∙ h_spin a (lone 0 1 0) (lit< tt) (lit< tt) ∙ sym (z_placed a)

h_z : (a : ℕ) → conj_step (hadamard a) (pauli_z a) ≡ pauli_x a
unfolding spin lone
h_z a = ap (conj_step (hadamard a)) (z_placed a) ∙ h_spin a (lone 0 0 1) (lit< tt) (lit< tt) ∙ sym (x_placed a)

h_x_other : (a q : ℕ) → q ≢ a → conj_step (hadamard a) (pauli_x q) ≡ pauli_x q
h_x_other a q h = idle a a (hadamard a) (pauli_x q) (inl refl, tt) (x_Off a a q h h)

h_z_other : (a q : ℕ) → q ≢ a → conj_step (hadamard a) (pauli_z q) ≡ pauli_z q
h_z_other a q h = idle a a (hadamard a) (pauli_z q) (inl refl, tt) (z_Off a a q h h)

module _ (n c t : ℕ) (hc : c < n) (ht : t < n) (ct : c ≢ t) where
  fresh-cnot_gate : gate_cnot paulis c t (fresh n) ≡ map_rows (conj (inverse (circuit (cnot_gate c t)))) (fresh n)
  unfolding inverse undo circuit conj
  fresh-cnot_gate =
      sym (cnot_put c t (fresh n) ct)
      ∙ rows_two n (cnot c t ∷ []) (ct, tt) c t _ _ _ _ hc ht ct (inl refl, inr refl, tt)
      (ap₂ times (fresh_x n c hc) (fresh_x n t ht) ∙ sym (cnot_xa c t ct)) (fresh_z n c hc ∙ sym (cnot_za c t ct)) (fresh_x n t ht ∙ sym (cnot_xb c t ct))
      (ap₂ times (fresh_z n t ht) (fresh_z n c hc) ∙ sym (cnot_zb c t ct))

  fresh-cz_gate : gate_cz paulis c t (fresh n) ≡ map_rows (conj (inverse (circuit (cz_gate c t)))) (fresh n)
  unfolding inverse undo circuit conj
  fresh-cz_gate =
      sym (cz_put c t (fresh n))
      ∙ rows_two n (hadamard t ∷ cnot c t ∷ hadamard t ∷ []) (tt, (ct, (tt, tt))) c t _ _ _ _ hc ht ct (inr refl, (inl refl, inr refl, (inr refl, tt)))
      (ap₂ times (fresh_x n c hc) (fresh_z n t ht)
      ∙ sym (ap (λ (w : Pauli). h' (conj_step (cnot c t) w)) (h_x_other t c ct) ∙ ap h' (cnot_xa c t ct) ∙ Step-times (hadamard t) (pauli_x c) (pauli_x t) tt ∙ ap₂ times (h_x_other t c ct) (h_x t)))
      (fresh_z n c hc ∙ sym (ap (λ (w : Pauli). h' (conj_step (cnot c t) w)) (h_z_other t c ct) ∙ ap h' (cnot_za c t ct) ∙ h_z_other t c ct))
      (ap₂ times (fresh_x n t ht) (fresh_z n c hc)
      ∙ sym (ap (λ (w : Pauli). h' (conj_step (cnot c t) w)) (h_x t) ∙ ap h' (cnot_zb c t ct) ∙ Step-times (hadamard t) (pauli_z t) (pauli_z c) tt ∙ ap₂ times (h_z t) (h_z_other t c ct)))
      (fresh_z n t ht ∙ sym (ap (λ (w : Pauli). h' (conj_step (cnot c t) w)) (h_z t) ∙ ap h' (cnot_xb c t ct) ∙ h_x t))
    where
      h' : Pauli → Pauli
      h' = conj_step (hadamard t)

-- products of X rows and of Z rows
xs_times : (u v : ℕ) → times (lone 0 u 0) (lone 0 v 0) ≡ lone 0 (bit_xor u v) 0
unfolding times lone count
xs_times u v = refl

zs_times : (u v : ℕ) → times (lone 0 0 u) (lone 0 0 v) ≡ lone 0 0 (bit_xor u v)
unfolding times lone
zs_times u v = λ i. record { phase = (ap (λ (w : ℕ). (0 + 0 + 2 * (count w % 2)) % 4) (and_zero_r u) ∙ ap (λ (w : ℕ). (0 + 0 + 2 * (w % 2)) % 4) count_zero) i; x = 0; z = bit_xor u v }

xor_around : (a b : ℕ) → bit_xor a (bit_xor b a) ≡ b
xor_around a b = sym (xor_assoc a b a) ∙ ap (λ (w : ℕ). bit_xor w a) (xor_comm a b) ∙ xor_assoc b a a ∙ ap (bit_xor b) (xor_self a) ∙ xor_zero_r b

-- a · (b · a) is b, for X rows and for Z rows
x_around : (a b : ℕ) → times (pauli_x a) (times (pauli_x b) (pauli_x a)) ≡ pauli_x b
unfolding pauli_x lone
x_around a b = ap (times (pauli_x a)) (xs_times (2 ^ b) (2 ^ a)) ∙ xs_times (2 ^ a) (bit_xor (2 ^ b) (2 ^ a)) ∙ ap (λ (w : ℕ). lone 0 w 0) (xor_around (2 ^ a) (2 ^ b))

z_around : (a b : ℕ) → times (pauli_z a) (times (pauli_z b) (pauli_z a)) ≡ pauli_z b
unfolding pauli_z lone
z_around a b = ap (times (pauli_z a)) (zs_times (2 ^ b) (2 ^ a)) ∙ zs_times (2 ^ a) (bit_xor (2 ^ b) (2 ^ a)) ∙ ap (λ (w : ℕ). lone 0 0 w) (xor_around (2 ^ a) (2 ^ b))

-- three CNOTs exchange the rows
module _ (a b : ℕ) (ab : a ≢ b) where
  ba : b ≢ a
  ba e = ab (sym e)

  there : Pauli → Pauli
  there = conj_step (cnot a b)

  back : Pauli → Pauli
  back = conj_step (cnot b a)

  swap_xb : there (back (there (pauli_x b))) ≡ pauli_x a
  unfolding there back
  swap_xb =
      ap (λ (w : Pauli). there (back w)) (cnot_xb a b ab) ∙ ap there (cnot_xa b a ba) ∙ Step-times (cnot a b) (pauli_x b) (pauli_x a) ab
      ∙ ap₂ times (cnot_xb a b ab) (cnot_xa a b ab) ∙ x_around b a

  swap_xa : there (back (there (pauli_x a))) ≡ pauli_x b
  unfolding there back
  swap_xa =
      ap (λ (w : Pauli). there (back w)) (cnot_xa a b ab) ∙ ap there (Step-times (cnot b a) (pauli_x a) (pauli_x b) ba ∙ ap₂ times (cnot_xb b a ba) (cnot_xa b a ba))
      ∙ ap there (x_around a b) ∙ cnot_xb a b ab

  swap_za : there (back (there (pauli_z a))) ≡ pauli_z b
  unfolding there back
  swap_za =
      ap (λ (w : Pauli). there (back w)) (cnot_za a b ab) ∙ ap there (cnot_zb b a ba) ∙ Step-times (cnot a b) (pauli_z a) (pauli_z b) ab
      ∙ ap₂ times (cnot_za a b ab) (cnot_zb a b ab) ∙ z_around a b

  swap_zb : there (back (there (pauli_z b))) ≡ pauli_z a
  unfolding there back
  swap_zb =
      ap (λ (w : Pauli). there (back w)) (cnot_zb a b ab) ∙ ap there (Step-times (cnot b a) (pauli_z b) (pauli_z a) ba ∙ ap₂ times (cnot_za b a ba) (cnot_zb b a ba))
      ∙ ap there (z_around b a) ∙ cnot_za a b ab

fresh-swap_gate : (n a b : ℕ) → a < n → b < n → a ≢ b → gate_swap paulis a b (fresh n) ≡ map_rows (conj (inverse (circuit (swap_gate a b)))) (fresh n)
unfolding inverse undo circuit conj there back
fresh-swap_gate n a b ha hb ab =
    sym (swap_put a b (fresh n))
    ∙ rows_two n (cnot a b ∷ cnot b a ∷ cnot a b ∷ []) (ab, ((λ e. ab (sym e)), (ab, tt))) a b _ _ _ _ ha hb ab (inl refl, inr refl, (inr refl, inl refl, (inl refl, inr refl, tt)))
    (fresh_x n b hb ∙ sym (swap_xa a b ab)) (fresh_z n b hb ∙ sym (swap_za a b ab)) (fresh_x n a ha ∙ sym (swap_xb a b ab)) (fresh_z n a ha ∙ sym (swap_zb a b ab))

-- ---- every gate, on any images

-- the frame that the paper's update by a circuit makes of the fresh one
abbrev pub Image : ℕ → List Step → Rows Pauli
Image n c = map_rows (conj c) (fresh n)

pub apart_append : (b c : List Step) → AllApart b → AllApart c → AllApart (b ++ c)
apart_append [] c h k = k
apart_append (s ∷ b) c h k = (h.0, apart_append b c h.1 k)

pub gate_apart : (n : ℕ) (f : Gate) → Fits n f → AllApart (inverse (circuit f))
unfolding inverse undo circuit
gate_apart n (h_gate q) h = (tt, tt)
gate_apart n (x_gate q) h = (tt, (tt, (tt, (tt, (tt, (tt, (tt, (tt, tt))))))))
gate_apart n (y_gate q) h = (tt, (tt, (tt, (tt, (tt, (tt, (tt, (tt, (tt, (tt, (tt, (tt, (tt, (tt, tt))))))))))))))
gate_apart n (z_gate q) h = (tt, (tt, (tt, (tt, (tt, (tt, tt))))))
gate_apart n (s_gate q) h = (tt, (tt, (tt, tt)))
gate_apart n (sdg_gate q) h = (tt, (tt, (tt, (tt, (tt, (tt, (tt, (tt, (tt, tt)))))))))
gate_apart n (sx_gate q) h = (tt, (tt, (tt, (tt, (tt, tt)))))
gate_apart n (cnot_gate c t) h = (h.2, tt)
gate_apart n (cz_gate c t) h = (tt, (h.2, (tt, tt)))
gate_apart n (swap_gate c t) h = (h.2, ((λ e. h.2 (sym e)), (h.2, tt)))
gate_apart n (cy_gate c t) h = (tt, (tt, (tt, (h.2, (tt, (tt, (tt, (tt, (tt, (tt, (tt, (tt, (tt, tt)))))))))))))

-- a gate whose fresh image is the paper's, on any image
carried : (n : ℕ) (f : Gate) (c : List Step) → AllApart c → gate paulis f (fresh n) ≡ Image n (inverse (circuit f)) → gate paulis f (Image n c) ≡ Image n (inverse (circuit f) ++ c)
unfolding paulis map_rows
carried n f c d e =
    sym (map_gate paulis paulis (conj c) (conj-times c d) (conj-shift c) (conj-plain c) f (fresh n)) ∙ ap (map_rows (conj c)) e
    ∙ (λ i. record { xs = (map-map (conj c) (conj (inverse (circuit f))) (fresh n).xs) i; zs = (map-map (conj c) (conj (inverse (circuit f))) (fresh n).zs) i })
    ∙ ap (λ (g : Pauli → Pauli). map_rows g (fresh n)) (fun_ext (λ p. sym (conj-append (inverse (circuit f)) c p)))

pub gate_image : (n : ℕ) (f : Gate) (c : List Step) → AllApart c → Fits n f → gate paulis f (Image n c) ≡ Image n (inverse (circuit f) ++ c)
unfolding gate
gate_image n (h_gate q) c d h = carried n (h_gate q) c d (fresh-h_gate n q h)
gate_image n (x_gate q) c d h = carried n (x_gate q) c d (fresh-x_gate n q h)
gate_image n (z_gate q) c d h = carried n (z_gate q) c d (fresh-z_gate n q h)
gate_image n (s_gate q) c d h = carried n (s_gate q) c d (fresh-s_gate n q h)
gate_image n (sdg_gate q) c d h = carried n (sdg_gate q) c d (fresh-sdg_gate n q h)
gate_image n (cnot_gate a b) c d h = carried n (cnot_gate a b) c d (fresh-cnot_gate n a b h.0 h.1 h.2)
gate_image n (cz_gate a b) c d h = carried n (cz_gate a b) c d (fresh-cz_gate n a b h.0 h.1 h.2)
gate_image n (swap_gate a b) c d h = carried n (swap_gate a b) c d (fresh-swap_gate n a b h.0 h.1 h.2)
gate_image n (y_gate q) c d h =
    ap (gate_z paulis q) (carried n (x_gate q) c d (fresh-x_gate n q h)) ∙ carried n (z_gate q) (inverse (circuit (x_gate q)) ++ c) (apart_append (inverse (circuit (x_gate q))) c (gate_apart n (x_gate q) h) d) (fresh-z_gate n q h)
    ∙ (unfold inverse undo circuit in refl)
gate_image n (sx_gate q) c d h =
    ap (λ (r : Rows Pauli). gate_h paulis q (gate_s paulis 3 q r)) (carried n (h_gate q) c d (fresh-h_gate n q h))
    ∙ ap (gate_h paulis q) (carried n (s_gate q) c1 d1 (fresh-s_gate n q h)) ∙ carried n (h_gate q) c2 d2 (fresh-h_gate n q h) ∙ (unfold inverse undo circuit in refl)
  where
    c1 : List Step
    c1 = inverse (circuit (h_gate q)) ++ c

    d1 : AllApart c1
    d1 = apart_append (inverse (circuit (h_gate q))) c (gate_apart n (h_gate q) h) d

    c2 : List Step
    c2 = inverse (circuit (s_gate q)) ++ c1

    d2 : AllApart c2
    d2 = apart_append (inverse (circuit (s_gate q))) c1 (gate_apart n (s_gate q) h) d1
gate_image n (cy_gate a b) c d h =
    ap (λ (r : Rows Pauli). gate_s paulis 3 b (gate_cnot paulis a b r)) (carried n (sdg_gate b) c d (fresh-sdg_gate n b h.1))
    ∙ ap (gate_s paulis 3 b) (carried n (cnot_gate a b) c1 d1 (fresh-cnot_gate n a b h.0 h.1 h.2)) ∙ carried n (s_gate b) c2 d2 (fresh-s_gate n b h.1) ∙ (unfold inverse undo circuit in refl)
  where
    c1 : List Step
    c1 = inverse (circuit (sdg_gate b)) ++ c

    d1 : AllApart c1
    d1 = apart_append (inverse (circuit (sdg_gate b))) c (gate_apart n (sdg_gate b) h.1) d

    c2 : List Step
    c2 = inverse (circuit (cnot_gate a b)) ++ c1

    d2 : AllApart c2
    d2 = apart_append (inverse (circuit (cnot_gate a b))) c1 (gate_apart n (cnot_gate a b) h) d1
