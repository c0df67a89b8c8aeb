-- What every frame keeps: each row has an even quarter, x[q] and z[q] anticommute, and all other pairs of rows commute. Assumes nothing.
use Prim.Native.Nat.{ℕ, zero, suc, ◌+◌, ◌-◌, ◌*◌, ◌%◌, ◌<◌, ◌^◌}
use native.Mathlib.Nat.{not-suc-le-zero, le_of_suc-le-suc, add-zero, zero-add}
use mathlib.Core.Path.{◌≡◌, refl, sym, ap, ◌∙◌}
use mathlib.Core.Logic.{◌≢◌}
use native.Mathlib.Decide.{ℕ_discrete, dec_lt}
use mathlib.Core.Bool.{Bool, true, false, cond}
use native.Mathlib.Omega.{arith}
use mathlib.Core.List.{map}
use lib.ListN.{length, get_or, length-set, length-map}
use lib.Pow.{pow-lt}
use lib.Bits.{bit_and, and_shifted, and_comm, and_zero_r, and_self}
use lib.Dec.{eqb}
use lib.Seq.{get_or-set_same, get_or-set_other, set-get_or}
use Rattle.model.specs.Pauli.{Pauli, count, times, shift, quarter, apart, anti}
use Rattle.model.specs.Frame.{Rows, Gate, h_gate, x_gate, y_gate, z_gate, s_gate, sdg_gate, sx_gate, cnot_gate, cz_gate, swap_gate, cy_gate, x_at, z_at, set_x, set_z, gate_h, gate_s, gate_z, gate_x, gate_cnot, gate_cz, gate_swap, gate, turn_z, turn, axis, Kind, kind_x, kind_y, kind_z, kind_p, from, pauli_x, pauli_z, fresh, paulis}
use Rattle.model.specs.Demands.{Fits}
use Rattle.model.proofs.Counts.{count_one}
use Rattle.model.proofs.Parity.{anti-times, anti_comm, anti_self, anti-shift, quarter-shift, quarter-times}

-- the rows a = x[q] and b = z[q] of one qubit
pub record Own (a b : Pauli) : Type 0 where
  pub even_x : quarter a % 2 ≡ 0
  pub even_z : quarter b % 2 ≡ 0
  pub pair : anti a b ≡ 1

-- the rows a, b of one qubit and the rows c, d of another
pub record Free (a b c d : Pauli) : Type 0 where
  pub xx : anti a c ≡ 0
  pub xz : anti a d ≡ 0
  pub zx : anti b c ≡ 0
  pub zz : anti b d ≡ 0

pub record Sound (n : ℕ) (r : Rows Pauli) : Type 0 where
  pub x_length : length r.xs ≡ n
  pub z_length : length r.zs ≡ n
  pub own : (q : ℕ) → q < n → Own (x_at paulis r q) (z_at paulis r q)
  pub free : (p q : ℕ) → p < n → q < n → p ≢ q → Free (x_at paulis r p) (z_at paulis r p) (x_at paulis r q) (z_at paulis r q)

Free-sym : {a b c d : Pauli} → Free a b c d → Free c d a b
Free-sym {a} {b} {c} {d} f = record {
  xx = anti_comm c a ∙ f.xx;
  xz = anti_comm c b ∙ f.zx;
  zx = anti_comm d a ∙ f.xz;
  zz = anti_comm d b ∙ f.zz;
}

-- ---- sums

pub anti-times_r : (c a b : Pauli) → anti c (times a b) ≡ (anti c a + anti c b) % 2
anti-times_r c a b = anti_comm c (times a b) ∙ anti-times a b c ∙ ap (λ (y : ℕ). y % 2) (cong (anti_comm a c) (anti_comm b c))
  where
    cong : {p q r s : ℕ} → p ≡ q → r ≡ s → p + r ≡ q + s
    cong h k = omega arith

anti-shift_r : (k : ℕ) (c a : Pauli) → anti c (shift k a) ≡ anti c a
anti-shift_r k c a = anti_comm c (shift k a) ∙ anti-shift k a c ∙ anti_comm a c

sum00 : {y p q : ℕ} → y ≡ (p + q) % 2 → p ≡ 0 → q ≡ 0 → y ≡ 0
sum00 e h k = omega arith

sum10 : {y p q : ℕ} → y ≡ (p + q) % 2 → p ≡ 1 → q ≡ 0 → y ≡ 1
sum10 e h k = omega arith

sum01 : {y p q : ℕ} → y ≡ (p + q) % 2 → p ≡ 0 → q ≡ 1 → y ≡ 1
sum01 e h k = omega arith

sum11 : {y p q : ℕ} → y ≡ (p + q) % 2 → p ≡ 1 → q ≡ 1 → y ≡ 0
sum11 e h k = omega arith

-- a product of two commuting rows, and i ^ k times a product of two anticommuting count
even_times : (a b : Pauli) → quarter a % 2 ≡ 0 → quarter b % 2 ≡ 0 → anti a b ≡ 0 → quarter (times a b) % 2 ≡ 0
even_times a b h k e = law (quarter a) (quarter b) (anti a b) (quarter (times a b)) (quarter-times a b) h k e
  where
    law : (p q t r : ℕ) → r % 2 ≡ (p + q + t) % 2 → p % 2 ≡ 0 → q % 2 ≡ 0 → t ≡ 0 → r % 2 ≡ 0
    law p q t r h j k e = omega arith

even_turned : (m : ℕ) (a b : Pauli) → m % 2 ≡ 1 → quarter a % 2 ≡ 0 → quarter b % 2 ≡ 0 → anti a b ≡ 1 → quarter (shift m (times a b)) % 2 ≡ 0
even_turned m a b o h k e =
    law (quarter a) (quarter b) (anti a b) (quarter (times a b)) (quarter (shift m (times a b))) (quarter-times a b) (quarter-shift m (times a b)) h k e
  where
    law : (p q t r w : ℕ) → r % 2 ≡ (p + q + t) % 2 → w % 2 ≡ (r + m) % 2 → p % 2 ≡ 0 → q % 2 ≡ 0 → t ≡ 1 → w % 2 ≡ 0
    law p q t r w h i j k e = omega arith

even_two : (a : Pauli) → quarter a % 2 ≡ 0 → quarter (shift 2 a) % 2 ≡ 0
even_two a h = law (quarter a) (quarter (shift 2 a)) (quarter-shift 2 a) h
  where
    law : (p w : ℕ) → w % 2 ≡ (p + 2) % 2 → p % 2 ≡ 0 → w % 2 ≡ 0
    law p w h j = omega arith

-- ---- rows that are changed at one qubit

set_x_x : (r : Rows Pauli) (q : ℕ) (a : Pauli) → q < length r.xs → x_at paulis (set_x r q a) q ≡ a
unfolding x_at set_x
set_x_x r q a h = get_or-set_same r.xs q a _ h

set_x_other : (r : Rows Pauli) (q p : ℕ) (a : Pauli) → p ≢ q → x_at paulis (set_x r q a) p ≡ x_at paulis r p
unfolding x_at set_x
set_x_other r q p a h = get_or-set_other r.xs q p a _ h

set_z_z : (r : Rows Pauli) (q : ℕ) (a : Pauli) → q < length r.zs → z_at paulis (set_z r q a) q ≡ a
unfolding z_at set_z
set_z_z r q a h = get_or-set_same r.zs q a _ h

set_z_other : (r : Rows Pauli) (q p : ℕ) (a : Pauli) → p ≢ q → z_at paulis (set_z r q a) p ≡ z_at paulis r p
unfolding z_at set_z
set_z_other r q p a h = get_or-set_other r.zs q p a _ h

set_x_z : (r : Rows Pauli) (q p : ℕ) (a : Pauli) → z_at paulis (set_x r q a) p ≡ z_at paulis r p
unfolding z_at set_x
set_x_z r q p a = refl

set_z_x : (r : Rows Pauli) (q p : ℕ) (a : Pauli) → x_at paulis (set_z r q a) p ≡ x_at paulis r p
unfolding x_at set_z
set_z_x r q p a = refl

set_x-xs : (r : Rows Pauli) (q : ℕ) (a : Pauli) → length (set_x r q a).xs ≡ length r.xs
unfolding set_x
set_x-xs r q a = length-set r.xs q a

set_x-zs : (r : Rows Pauli) (q : ℕ) (a : Pauli) → length (set_x r q a).zs ≡ length r.zs
unfolding set_x
set_x-zs r q a = refl

set_z-xs : (r : Rows Pauli) (q : ℕ) (a : Pauli) → length (set_z r q a).xs ≡ length r.xs
unfolding set_z
set_z-xs r q a = refl

set_z-zs : (r : Rows Pauli) (q : ℕ) (a : Pauli) → length (set_z r q a).zs ≡ length r.zs
unfolding set_z
set_z-zs r q a = length-set r.zs q a

set_x_same : (r : Rows Pauli) (q : ℕ) → set_x r q (x_at paulis r q) ≡ r
unfolding set_x x_at
set_x_same r q = λ i. record { xs = set-get_or r.xs q paulis.unit i; zs = r.zs }

set_z_same : (r : Rows Pauli) (q : ℕ) → set_z r q (z_at paulis r q) ≡ r
unfolding set_z z_at
set_z_same r q = λ i. record { xs = r.xs; zs = set-get_or r.zs q paulis.unit i }

-- both rows of qubit q, anew
pub put : ℕ → Pauli → Pauli → Rows Pauli → Rows Pauli
put q a b r = set_z (set_x r q a) q b

module _ (n : ℕ) (r : Rows Pauli) (hx : length r.xs ≡ n) (hz : length r.zs ≡ n) (q : ℕ) (hq : q < n) (a b : Pauli) where
  pub put_x : x_at paulis (put q a b r) q ≡ a
  unfolding put
  put_x = set_z_x (set_x r q a) q q b ∙ set_x_x r q a (omega arith)

  pub put_z : z_at paulis (put q a b r) q ≡ b
  unfolding put
  put_z = set_z_z (set_x r q a) q b (omega (arith, set_x-zs r q a))

  pub put_x_other : (p : ℕ) → p ≢ q → x_at paulis (put q a b r) p ≡ x_at paulis r p
  unfolding put
  put_x_other p h = set_z_x (set_x r q a) q p b ∙ set_x_other r q p a h

  pub put_z_other : (p : ℕ) → p ≢ q → z_at paulis (put q a b r) p ≡ z_at paulis r p
  unfolding put
  put_z_other p h = set_z_other (set_x r q a) q p b h ∙ set_x_z r q p a

  pub put-xs : length (put q a b r).xs ≡ n
  unfolding put
  put-xs = set_z-xs (set_x r q a) q b ∙ set_x-xs r q a ∙ hx

  pub put-zs : length (put q a b r).zs ≡ n
  unfolding put
  put-zs = set_z-zs (set_x r q a) q b ∙ set_x-zs r q a ∙ hz

put-set_x : (r : Rows Pauli) (q : ℕ) (a : Pauli) → put q a (z_at paulis r q) r ≡ set_x r q a
unfolding put
put-set_x r q a = ap (set_z (set_x r q a) q) (sym (set_x_z r q q a)) ∙ set_z_same (set_x r q a) q

put-set_z : (r : Rows Pauli) (q : ℕ) (b : Pauli) → put q (x_at paulis r q) b r ≡ set_z r q b
unfolding put
put-set_z r q b = ap (λ (w : Rows Pauli). set_z w q b) (set_x_same r q)

-- each gate as new rows of its qubits

pub h_put : (q : ℕ) (r : Rows Pauli) → put q (z_at paulis r q) (x_at paulis r q) r ≡ gate_h paulis q r
unfolding gate_h put
h_put q r = refl

pub s_put : (k q : ℕ) (r : Rows Pauli) → put q (shift k (times (x_at paulis r q) (z_at paulis r q))) (z_at paulis r q) r ≡ gate_s paulis k q r
unfolding gate_s paulis
s_put k q r = put-set_x r q _

pub z_put : (q : ℕ) (r : Rows Pauli) → put q (shift 2 (x_at paulis r q)) (z_at paulis r q) r ≡ gate_z paulis q r
unfolding gate_z paulis
z_put q r = put-set_x r q _

pub x_put : (q : ℕ) (r : Rows Pauli) → put q (x_at paulis r q) (shift 2 (z_at paulis r q)) r ≡ gate_x paulis q r
unfolding gate_x paulis
x_put q r = put-set_z r q _

module _ (c t : ℕ) (r : Rows Pauli) where
  pub cz_put : put t (times (x_at paulis r t) (z_at paulis r c)) (z_at paulis r t) (put c (times (x_at paulis r c) (z_at paulis r t)) (z_at paulis r c) r) ≡ gate_cz paulis c t r
  unfolding gate_cz paulis
  cz_put =
      ap (put t xt (z_at paulis r t)) (put-set_x r c xc) ∙ ap (λ (w : Pauli). put t xt w (set_x r c xc)) (sym (set_x_z r c t xc)) ∙ put-set_x (set_x r c xc) t xt
    where
      xc : Pauli
      xc = times (x_at paulis r c) (z_at paulis r t)

      xt : Pauli
      xt = times (x_at paulis r t) (z_at paulis r c)

  pub cnot_put : c ≢ t → put t (x_at paulis r t) (times (z_at paulis r t) (z_at paulis r c)) (put c (times (x_at paulis r c) (x_at paulis r t)) (z_at paulis r c) r) ≡ gate_cnot paulis c t r
  unfolding gate_cnot paulis
  cnot_put ct =
      ap (put t (x_at paulis r t) zt) (put-set_x r c xc) ∙ ap (λ (w : Pauli). put t w zt (set_x r c xc)) (sym (set_x_other r c t xc (λ e. ct (sym e)))) ∙ put-set_z (set_x r c xc) t zt
    where
      xc : Pauli
      xc = times (x_at paulis r c) (x_at paulis r t)

      zt : Pauli
      zt = times (z_at paulis r t) (z_at paulis r c)

  pub swap_put : put t (x_at paulis r c) (z_at paulis r c) (put c (x_at paulis r t) (z_at paulis r t) r) ≡ gate_swap paulis c t r
  unfolding gate_swap put set_x set_z
  swap_put = refl

-- one qubit's rows are changed
module _ (n : ℕ) (r : Rows Pauli) (s : Sound n r) (q : ℕ) (hq : q < n) (a b : Pauli) (own' : Own a b)
    (free' : (c d : Pauli) → Free (x_at paulis r q) (z_at paulis r q) c d → Free a b c d) where
  new : Rows Pauli
  new = put q a b r

  X-q : x_at paulis new q ≡ a
  unfolding new
  X-q = put_x n r s.x_length s.z_length q hq a b

  Z-q : z_at paulis new q ≡ b
  unfolding new
  Z-q = put_z n r s.x_length s.z_length q hq a b

  X-other : (p : ℕ) → p ≢ q → x_at paulis new p ≡ x_at paulis r p
  unfolding new
  X-other = put_x_other n r s.x_length s.z_length q hq a b

  Z-other : (p : ℕ) → p ≢ q → z_at paulis new p ≡ z_at paulis r p
  unfolding new
  Z-other = put_z_other n r s.x_length s.z_length q hq a b

  at_q : (p : ℕ) → p < n → p ≢ q → Free a b (x_at paulis new p) (z_at paulis new p)
  at_q p hp h = rw (X-other p h, Z-other p h) (free' _ _ (s.free q p hq hp (λ e. h (sym e))))

  Own-cases : (p : ℕ) → p < n → Dec (p ≡ q) → Own (x_at paulis new p) (z_at paulis new p)
  Own-cases p hp (yes e) = rw (e, X-q, Z-q) own'
  Own-cases p hp (no h) = rw (X-other p h, Z-other p h) (s.own p hp)

  Free-cases : (p t : ℕ) → p < n → t < n → p ≢ t → Dec (p ≡ q) → Dec (t ≡ q)
      → Free (x_at paulis new p) (z_at paulis new p) (x_at paulis new t) (z_at paulis new t)
  Free-cases p t hp ht h (yes e) (yes f) = absurd (h (e ∙ sym f))
  Free-cases p t hp ht h (yes e) (no f) = rw (e, X-q, Z-q) (at_q t ht f)
  Free-cases p t hp ht h (no e) (yes f) = rw (f, X-q, Z-q) (Free-sym (at_q p hp e))
  Free-cases p t hp ht h (no e) (no f) = rw (X-other p e, Z-other p e, X-other t f, Z-other t f) (s.free p t hp ht h)

  Sound-put : Sound n (put q a b r)
  unfolding new
  Sound-put = record {
    x_length = put-xs n r s.x_length s.z_length q hq a b;
    z_length = put-zs n r s.x_length s.z_length q hq a b;
    own = (λ p hp. Own-cases p hp (ℕ_discrete p q));
    free = (λ p t hp ht h. Free-cases p t hp ht h (ℕ_discrete p q) (ℕ_discrete t q));
  }

-- two qubits' rows are changed
module _ (n : ℕ) (r : Rows Pauli) (s : Sound n r) (c t : ℕ) (hc : c < n) (ht : t < n) (ct : c ≢ t) (a b d e : Pauli)
    (own_c : Own a b) (own_t : Own d e) (free_ct : Free a b d e)
    (free_c : (f g : Pauli) → Free (x_at paulis r c) (z_at paulis r c) f g → Free (x_at paulis r t) (z_at paulis r t) f g → Free a b f g)
    (free_t : (f g : Pauli) → Free (x_at paulis r c) (z_at paulis r c) f g → Free (x_at paulis r t) (z_at paulis r t) f g → Free d e f g) where
  mid : Rows Pauli
  mid = put c a b r

  mid_x : length mid.xs ≡ n
  unfolding mid
  mid_x = put-xs n r s.x_length s.z_length c hc a b

  mid_z : length mid.zs ≡ n
  unfolding mid
  mid_z = put-zs n r s.x_length s.z_length c hc a b

  new2 : Rows Pauli
  new2 = put t d e mid

  X-t : x_at paulis new2 t ≡ d
  unfolding new2
  X-t = put_x n mid mid_x mid_z t ht d e

  Z-t : z_at paulis new2 t ≡ e
  unfolding new2
  Z-t = put_z n mid mid_x mid_z t ht d e

  X-c : x_at paulis new2 c ≡ a
  unfolding new2 mid
  X-c = put_x_other n mid mid_x mid_z t ht d e c ct ∙ put_x n r s.x_length s.z_length c hc a b

  Z-c : z_at paulis new2 c ≡ b
  unfolding new2 mid
  Z-c = put_z_other n mid mid_x mid_z t ht d e c ct ∙ put_z n r s.x_length s.z_length c hc a b

  X-rest : (p : ℕ) → p ≢ c → p ≢ t → x_at paulis new2 p ≡ x_at paulis r p
  unfolding new2 mid
  X-rest p h k = put_x_other n mid mid_x mid_z t ht d e p k ∙ put_x_other n r s.x_length s.z_length c hc a b p h

  Z-rest : (p : ℕ) → p ≢ c → p ≢ t → z_at paulis new2 p ≡ z_at paulis r p
  unfolding new2 mid
  Z-rest p h k = put_z_other n mid mid_x mid_z t ht d e p k ∙ put_z_other n r s.x_length s.z_length c hc a b p h

  at_c : (p : ℕ) → p < n → p ≢ c → p ≢ t → Free a b (x_at paulis new2 p) (z_at paulis new2 p)
  at_c p hp h k = rw (X-rest p h k, Z-rest p h k) (free_c _ _ (s.free c p hc hp (λ e. h (sym e))) (s.free t p ht hp (λ e. k (sym e))))

  at_t : (p : ℕ) → p < n → p ≢ c → p ≢ t → Free d e (x_at paulis new2 p) (z_at paulis new2 p)
  at_t p hp h k = rw (X-rest p h k, Z-rest p h k) (free_t _ _ (s.free c p hc hp (λ e. h (sym e))) (s.free t p ht hp (λ e. k (sym e))))

  Own-cases2 : (p : ℕ) → p < n → Dec (p ≡ c) → Dec (p ≡ t) → Own (x_at paulis new2 p) (z_at paulis new2 p)
  Own-cases2 p hp (yes h) k = rw (h, X-c, Z-c) own_c
  Own-cases2 p hp (no h) (yes k) = rw (k, X-t, Z-t) own_t
  Own-cases2 p hp (no h) (no k) = rw (X-rest p h k, Z-rest p h k) (s.own p hp)

  -- the rows of c, of t, and of another qubit against those of q
  Free-c_q : (q : ℕ) → q < n → c ≢ q → Dec (q ≡ t) → Free a b (x_at paulis new2 q) (z_at paulis new2 q)
  Free-c_q q hq h (yes k) = rw (k, X-t, Z-t) free_ct
  Free-c_q q hq h (no k) = at_c q hq (λ e. h (sym e)) k

  Free-t_q : (q : ℕ) → q < n → t ≢ q → Dec (q ≡ c) → Free d e (x_at paulis new2 q) (z_at paulis new2 q)
  Free-t_q q hq h (yes k) = rw (k, X-c, Z-c) (Free-sym free_ct)
  Free-t_q q hq h (no k) = at_t q hq k (λ e. h (sym e))

  Free-rest_q : (p q : ℕ) → p < n → q < n → p ≢ q → p ≢ c → p ≢ t → Dec (q ≡ c) → Dec (q ≡ t)
      → Free (x_at paulis new2 p) (z_at paulis new2 p) (x_at paulis new2 q) (z_at paulis new2 q)
  Free-rest_q p q hp hq h i j (yes k) m = rw (k, X-c, Z-c) (Free-sym (at_c p hp i j))
  Free-rest_q p q hp hq h i j (no k) (yes m) = rw (m, X-t, Z-t) (Free-sym (at_t p hp i j))
  Free-rest_q p q hp hq h i j (no k) (no m) = rw (X-rest p i j, Z-rest p i j, X-rest q k m, Z-rest q k m) (s.free p q hp hq h)

  Free-cases2 : (p q : ℕ) → p < n → q < n → p ≢ q → Dec (p ≡ c) → Dec (p ≡ t)
      → Free (x_at paulis new2 p) (z_at paulis new2 p) (x_at paulis new2 q) (z_at paulis new2 q)
  Free-cases2 p q hp hq h (yes i) j = rw (i, X-c, Z-c) (Free-c_q q hq (λ e. h (i ∙ e)) (ℕ_discrete q t))
  Free-cases2 p q hp hq h (no i) (yes j) = rw (j, X-t, Z-t) (Free-t_q q hq (λ e. h (j ∙ e)) (ℕ_discrete q c))
  Free-cases2 p q hp hq h (no i) (no j) = Free-rest_q p q hp hq h i j (ℕ_discrete q c) (ℕ_discrete q t)

  Sound-put2 : Sound n (put t d e (put c a b r))
  unfolding new2 mid
  Sound-put2 = record {
    x_length = put-xs n mid mid_x mid_z t ht d e;
    z_length = put-zs n mid mid_x mid_z t ht d e;
    own = (λ p hp. Own-cases2 p hp (ℕ_discrete p c) (ℕ_discrete p t));
    free = (λ p q hp hq h. Free-cases2 p q hp hq h (ℕ_discrete p c) (ℕ_discrete p t));
  }

-- ---- the gates on one qubit

module _ (n : ℕ) (r : Rows Pauli) (s : Sound n r) (q : ℕ) (hq : q < n) where
  pub Sound-h_gate : Sound n (gate_h paulis q r)
  Sound-h_gate =
      rw (← h_put q r)
      (Sound-put n r s q hq (z_at paulis r q) (x_at paulis r q)
      (record { even_x = (s.own q hq).even_z; even_z = (s.own q hq).even_x; pair = anti_comm _ _ ∙ (s.own q hq).pair })
      (λ c d f. record { xx = f.zx; xz = f.zz; zx = f.xx; zz = f.xz }))

  pub Sound-s_gate : (k : ℕ) → k % 2 ≡ 1 → Sound n (gate_s paulis k q r)
  Sound-s_gate k odd =
      rw (← s_put k q r)
      (Sound-put n r s q hq (shift k (times a b)) b
      (record {
        even_x = even_turned k a b odd o.even_x o.even_z o.pair;
        even_z = o.even_z;
        pair = anti-shift k (times a b) b ∙ sum10 (anti-times a b b) o.pair (anti_self b);
      })
      (λ c d f. record {
        xx = anti-shift k (times a b) c ∙ sum00 (anti-times a b c) f.xx f.zx;
        xz = anti-shift k (times a b) d ∙ sum00 (anti-times a b d) f.xz f.zz;
        zx = f.zx;
        zz = f.zz;
      }))
    where
      a : Pauli
      a = x_at paulis r q

      b : Pauli
      b = z_at paulis r q

      o : Own a b
      o = s.own q hq

  pub Sound-z_gate : Sound n (gate_z paulis q r)
  Sound-z_gate =
      rw (← z_put q r)
      (Sound-put n r s q hq (shift 2 (x_at paulis r q)) (z_at paulis r q)
      (record { even_x = even_two _ (s.own q hq).even_x; even_z = (s.own q hq).even_z; pair = anti-shift 2 _ _ ∙ (s.own q hq).pair })
      (λ c d f. record { xx = anti-shift 2 _ _ ∙ f.xx; xz = anti-shift 2 _ _ ∙ f.xz; zx = f.zx; zz = f.zz }))

  pub Sound-x_gate : Sound n (gate_x paulis q r)
  Sound-x_gate =
      rw (← x_put q r)
      (Sound-put n r s q hq (x_at paulis r q) (shift 2 (z_at paulis r q))
      (record { even_x = (s.own q hq).even_x; even_z = even_two _ (s.own q hq).even_z; pair = anti-shift_r 2 _ _ ∙ (s.own q hq).pair })
      (λ c d f. record { xx = f.xx; xz = f.xz; zx = anti-shift 2 _ _ ∙ f.zx; zz = anti-shift 2 _ _ ∙ f.zz }))

-- ---- the gates on two qubits

module _ (n : ℕ) (r : Rows Pauli) (s : Sound n r) (c t : ℕ) (hc : c < n) (ht : t < n) (ct : c ≢ t) where
  abbrev xc : Pauli
  xc = x_at paulis r c

  abbrev zc : Pauli
  zc = z_at paulis r c

  abbrev xt : Pauli
  xt = x_at paulis r t

  abbrev zt : Pauli
  zt = z_at paulis r t

  oc : Own xc zc
  oc = s.own c hc

  ot : Own xt zt
  ot = s.own t ht

  f : Free xc zc xt zt
  f = s.free c t hc ht ct

  pub Sound-cz_gate : Sound n (gate_cz paulis c t r)
  Sound-cz_gate =
      rw (← cz_put c t r)
      (Sound-put2 n r s c t hc ht ct (times xc zt) zc (times xt zc) zt
      (record { even_x = even_times xc zt oc.even_x ot.even_z f.xz; even_z = oc.even_z; pair = sum10 (anti-times xc zt zc) oc.pair (anti_comm zt zc ∙ f.zz) })
      (record { even_x = even_times xt zc ot.even_x oc.even_z (anti_comm xt zc ∙ f.zx); even_z = ot.even_z; pair = sum10 (anti-times xt zc zt) ot.pair f.zz })
      (record {
        xx = sum11 (anti-times xc zt (times xt zc)) (sum01 (anti-times_r xc xt zc) f.xx oc.pair) (sum10 (anti-times_r zt xt zc) (anti_comm zt xt ∙ ot.pair) (anti_comm zt zc ∙ f.zz));
        xz = sum00 (anti-times xc zt zt) f.xz (anti_self zt);
        zx = sum00 (anti-times_r zc xt zc) f.zx (anti_self zc);
        zz = f.zz;
      })
      (λ u v h k. record {
        xx = sum00 (anti-times xc zt u) h.xx k.zx;
        xz = sum00 (anti-times xc zt v) h.xz k.zz;
        zx = h.zx;
        zz = h.zz;
      })
      (λ u v h k. record {
        xx = sum00 (anti-times xt zc u) k.xx h.zx;
        xz = sum00 (anti-times xt zc v) k.xz h.zz;
        zx = k.zx;
        zz = k.zz;
      }))

  pub Sound-cnot_gate : Sound n (gate_cnot paulis c t r)
  Sound-cnot_gate =
      rw (← cnot_put c t r ct)
      (Sound-put2 n r s c t hc ht ct (times xc xt) zc xt (times zt zc)
      (record { even_x = even_times xc xt oc.even_x ot.even_x f.xx; even_z = oc.even_z; pair = sum10 (anti-times xc xt zc) oc.pair (anti_comm xt zc ∙ f.zx) })
      (record { even_x = ot.even_x; even_z = even_times zt zc ot.even_z oc.even_z (anti_comm zt zc ∙ f.zz); pair = sum10 (anti-times_r xt zt zc) ot.pair (anti_comm xt zc ∙ f.zx) })
      (record {
        xx = sum00 (anti-times xc xt xt) f.xx (anti_self xt);
        xz = sum11 (anti-times xc xt (times zt zc)) (sum01 (anti-times_r xc zt zc) f.xz oc.pair) (sum10 (anti-times_r xt zt zc) ot.pair (anti_comm xt zc ∙ f.zx));
        zx = f.zx;
        zz = sum00 (anti-times_r zc zt zc) f.zz (anti_self zc);
      })
      (λ u v h k. record {
        xx = sum00 (anti-times xc xt u) h.xx k.xx;
        xz = sum00 (anti-times xc xt v) h.xz k.xz;
        zx = h.zx;
        zz = h.zz;
      })
      (λ u v h k. record {
        xx = k.xx;
        xz = k.xz;
        zx = sum00 (anti-times zt zc u) k.zx h.zx;
        zz = sum00 (anti-times zt zc v) k.zz h.zz;
      }))

  pub Sound-swap_gate : Sound n (gate_swap paulis c t r)
  Sound-swap_gate =
      rw (← swap_put c t r)
      (Sound-put2 n r s c t hc ht ct (x_at paulis r t) (z_at paulis r t) (x_at paulis r c) (z_at paulis r c)
      (s.own t ht) (s.own c hc) (Free-sym (s.free c t hc ht ct)) (λ u v h k. k) (λ u v h k. h))

-- ---- any gate, any turn

pub Sound-gate : (n : ℕ) (r : Rows Pauli) (g : Gate) → Sound n r → Fits n g → Sound n (gate paulis g r)
unfolding gate
Sound-gate n r (h_gate q) s h = Sound-h_gate n r s q h
Sound-gate n r (x_gate q) s h = Sound-x_gate n r s q h
Sound-gate n r (y_gate q) s h = Sound-z_gate n _ (Sound-x_gate n r s q h) q h
Sound-gate n r (z_gate q) s h = Sound-z_gate n r s q h
Sound-gate n r (s_gate q) s h = Sound-s_gate n r s q h 3 refl
Sound-gate n r (sdg_gate q) s h = Sound-s_gate n r s q h 1 refl
Sound-gate n r (sx_gate q) s h = Sound-h_gate n _ (Sound-s_gate n _ (Sound-h_gate n r s q h) q h 3 refl) q h
Sound-gate n r (cnot_gate c t) s h = Sound-cnot_gate n r s c t h.0 h.1 h.2
Sound-gate n r (cz_gate c t) s h = Sound-cz_gate n r s c t h.0 h.1 h.2
Sound-gate n r (swap_gate c t) s h = Sound-swap_gate n r s c t h.0 h.1 h.2
Sound-gate n r (cy_gate c t) s h = Sound-s_gate n _ (Sound-cnot_gate n _ (Sound-s_gate n r s t h.1 1 refl) c t h.0 h.1 h.2) t h.1 3 refl

Sound-turn_z : (n : ℕ) (r : Rows Pauli) (k q : ℕ) → Sound n r → q < n → Sound n (turn_z paulis k q r)
unfolding turn_z
Sound-turn_z n r k q s h = pick (eqb k 2) (Sound-s_gate n r s q h 3 refl) (pick (eqb k 4) (Sound-z_gate n r s q h) (pick (eqb k 6) (Sound-s_gate n r s q h 1 refl) s))
  where
    pick : {a b : Rows Pauli} (t : Bool) → Sound n a → Sound n b → Sound n (cond t a b)
    pick true p q = p
    pick false p q = q

pub Sound-turn : (n : ℕ) (r : Rows Pauli) (kind : Kind) (k q : ℕ) → Sound n r → q < n → Sound n (turn paulis kind k q r)
unfolding turn
Sound-turn n r kind_x k q s h = Sound-h_gate n _ (Sound-turn_z n _ k q (Sound-h_gate n r s q h) h) q h
Sound-turn n r kind_y k q s h =
    Sound-s_gate n _ (Sound-h_gate n _ (Sound-turn_z n _ k q (Sound-h_gate n _ (Sound-s_gate n r s q h 1 refl) q h) h) q h) q h 3 refl
Sound-turn n r kind_z k q s h = Sound-turn_z n r k q s h
Sound-turn n r kind_p k q s h = Sound-turn_z n r k q s h

-- the axis of any kind has an even quarter, hence a sign
pub even_axis : (n : ℕ) (r : Rows Pauli) (kind : Kind) (q : ℕ) → Sound n r → q < n → quarter (axis paulis kind q r) % 2 ≡ 0
unfolding axis paulis
even_axis n r kind_x q s h = (s.own q h).even_x
even_axis n r kind_y q s h = even_turned 1 _ _ refl (s.own q h).even_x (s.own q h).even_z (s.own q h).pair
even_axis n r kind_z q s h = (s.own q h).even_z
even_axis n r kind_p q s h = (s.own q h).even_z

-- ---- the fresh frame

and_apart : (p q : ℕ) → q < p → bit_and (2 ^ p) (2 ^ q) ≡ 0
and_apart p q h = ap (λ (w : ℕ). bit_and w (2 ^ q)) line ∙ and_shifted 1 p (2 ^ q) (pow-lt h)
  where
    line : 2 ^ p ≡ 1 * 2 ^ p
    line = omega arith

and_ne : (p q : ℕ) → p ≢ q → bit_and (2 ^ p) (2 ^ q) ≡ 0
and_ne p q h = cases (dec_lt q p)
  where
    cases : Dec (q < p) → bit_and (2 ^ p) (2 ^ q) ≡ 0
    cases (yes k) = and_apart p q k
    cases (no k) = and_comm (2 ^ p) (2 ^ q) ∙ and_apart q p (omega arith)

pub length_from : (k n : ℕ) → length (from k n) ≡ n
unfolding from
length_from k zero = refl
length_from k (suc n) = ap suc (length_from (suc k) n)

get_or-from : (f : ℕ → Pauli) (d : Pauli) (k n q : ℕ) → q < n → get_or (map f (from k n)) q d ≡ f (k + q)
unfolding from
get_or-from f d k zero q h = absurd (not-suc-le-zero h)
get_or-from f d k (suc n) zero h = ap f (sym (add-zero k))
get_or-from f d k (suc n) (suc q) h = get_or-from f d (suc k) n q (le_of_suc-le-suc h) ∙ ap f line
  where
    line : suc k + q ≡ k + suc q
    line = omega arith

pub fresh_x : (n q : ℕ) → q < n → x_at paulis (fresh n) q ≡ pauli_x q
unfolding x_at fresh
fresh_x n q h = get_or-from pauli_x _ 0 n q h ∙ ap pauli_x (zero-add q)

pub fresh_z : (n q : ℕ) → q < n → z_at paulis (fresh n) q ≡ pauli_z q
unfolding z_at fresh
fresh_z n q h = get_or-from pauli_z _ 0 n q h ∙ ap pauli_z (zero-add q)

apart_x_x : (a b : ℕ) → apart a 0 b 0 ≡ 0
unfolding apart count
apart_x_x a b = ap (λ (w : ℕ). (count w + 0) % 2) (and_zero_r a)

apart_z_z : (a b : ℕ) → apart 0 a 0 b ≡ 0
unfolding apart count
apart_z_z a b = ap (λ (w : ℕ). (0 + count w) % 2) (and_zero_r a)

apart_x_z : (a b : ℕ) → apart a 0 0 b ≡ count (bit_and a b) % 2
unfolding apart count
apart_x_z a b = ap (λ (w : ℕ). w % 2) (add-zero (count (bit_and a b)))

apart_z_x : (a b : ℕ) → apart 0 a b 0 ≡ count (bit_and a b) % 2
unfolding apart count
apart_z_x a b = ap (λ (w : ℕ). w % 2) (zero-add (count (bit_and a b)))

own_fresh : (q : ℕ) → Own (pauli_x q) (pauli_z q)
unfolding pauli_x pauli_z quarter anti count
own_fresh q = record {
  even_x = ap (λ (w : ℕ). (0 + 4 - count w % 4) % 4 % 2) (and_zero_r (2 ^ q));
  even_z = refl;
  pair = apart_x_z (2 ^ q) (2 ^ q) ∙ ap (λ (w : ℕ). count w % 2) (and_self (2 ^ q)) ∙ ap (λ (w : ℕ). w % 2) (count_one q);
}

Free-fresh : (p q : ℕ) → p ≢ q → Free (pauli_x p) (pauli_z p) (pauli_x q) (pauli_z q)
unfolding pauli_x pauli_z anti count
Free-fresh p q h = record {
  xx = apart_x_x (2 ^ p) (2 ^ q);
  xz = apart_x_z (2 ^ p) (2 ^ q) ∙ ap (λ (w : ℕ). count w % 2) (and_ne p q h);
  zx = apart_z_x (2 ^ p) (2 ^ q) ∙ ap (λ (w : ℕ). count w % 2) (and_ne p q h);
  zz = apart_z_z (2 ^ p) (2 ^ q);
}

pub Sound-fresh : (n : ℕ) → Sound n (fresh n)
unfolding fresh
Sound-fresh n = record {
  x_length = length-map (from 0 n) pauli_x ∙ length_from 0 n;
  z_length = length-map (from 0 n) pauli_z ∙ length_from 0 n;
  own = (λ q h. rw (fresh_x n q h, fresh_z n q h) (own_fresh q));
  free = (λ p q hp hq h. rw (fresh_x n p hp, fresh_z n p hp, fresh_x n q hq, fresh_z n q hq) (Free-fresh p q h));
}
