-- Axes that anticommute share a qubit, hence a signature bit. Assumes nothing.
use Prim.Native.Nat.{ℕ, zero, suc, ◌+◌, ◌*◌, ◌/◌, ◌%◌, ◌^◌, ◌<◌}
use mathlib.Core.Path.{◌≡◌, sym, ap, ap₂, ◌∙◌, subst}
use mathlib.Core.Logic.{◌≢◌}
use mathlib.Core.Bool.{true, not}
use native.Mathlib.Omega.{arith}
use native.Mathlib.Decide.{ℕ_discrete}
use native.Mathlib.Nat.{mod-lt}
use lib.Arith.{lt-one}
use lib.Pow.{pow_pos, shr_lt, split, shr-shr}
use lib.Bits.{bit_and, bit_or, and_block, and_zero_r, and_le_r, or_add_and, or_shr, or_mod, or_comm}
use lib.Dec.{eqb}
use borrow.Author.Tests.{ne_eqb}
use Rattle.model.specs.Pauli.{count, apart}
use Rattle.model.specs.Events.{touches}

-- block b of a set, l qubits to a block
part : ℕ → ℕ → ℕ → ℕ
part l u b = u / 2 ^ (l * b) % 2 ^ l

part_zero : (l u : ℕ) → part l u 0 ≡ u % 2 ^ l
unfolding part
part_zero l u = rw (zeroth l) line
  where
    zeroth : (l : ℕ) → l * 0 ≡ 0
    zeroth l = omega arith

    line : u / 1 % 2 ^ l ≡ u % 2 ^ l
    line = ap (λ (w : ℕ). w % 2 ^ l) one
      where
        one : u / 1 ≡ u
        one = omega arith

part-suc : (l u b : ℕ) → part l u (suc b) ≡ part l (u / 2 ^ l) b
unfolding part
part-suc l u b = ap (λ (w : ℕ). w % 2 ^ l) (ap (λ (w : ℕ). u / 2 ^ w) line ∙ sym (shr-shr u l (l * b)))
  where
    line : l * suc b ≡ l + l * b
    line = omega arith

record Shared (l m u v : ℕ) : Type 0 where
  bit : ℕ
  low : bit < m
  in_u : part l u bit ≢ 0
  in_v : part l v bit ≢ 0

common : (l m u v : ℕ) → u < 2 ^ (l * m) → bit_and u v ≢ 0 → Shared l m u v
common l zero u v h k = absurd (k (ap (λ (w : ℕ). bit_and w v) (lt-one (subst (λ (w : ℕ). u < 2 ^ w) zeroth h))))
  where
    zeroth : l * 0 ≡ 0
    zeroth = omega arith
common l (suc m) u v h k = go (ℕ_discrete (bit_and (u / 2 ^ l) (v / 2 ^ l)) 0) (common l m (u / 2 ^ l) (v / 2 ^ l) (shr_lt (l * m) l (subst (λ (w : ℕ). u < 2 ^ w) line h)))
  where
    line : l * suc m ≡ l * m + l
    line = omega arith

    whole : bit_and u v ≡ bit_and (u / 2 ^ l) (v / 2 ^ l) * 2 ^ l + bit_and (u % 2 ^ l) (v % 2 ^ l)
    whole =
        ap₂ bit_and (sym (split u l)) (sym (split v l))
        ∙ and_block l (u / 2 ^ l) (v / 2 ^ l) (u % 2 ^ l) (v % 2 ^ l) (mod-lt u (pow_pos l)) (mod-lt v (pow_pos l))

    naught : 0 * 2 ^ l + 0 ≡ 0
    naught = omega arith

    go : Dec (bit_and (u / 2 ^ l) (v / 2 ^ l) ≡ 0) → (bit_and (u / 2 ^ l) (v / 2 ^ l) ≢ 0 → Shared l m (u / 2 ^ l) (v / 2 ^ l)) → Shared l (suc m) u v
    go (yes e) f = record {
      bit = 0;
      low = omega arith;
      in_u = (λ q. k (whole ∙ ap₂ (λ (a b : ℕ). a * 2 ^ l + b) e (ap (λ (w : ℕ). bit_and w (v % 2 ^ l)) (sym (part_zero l u) ∙ q)) ∙ naught));
      in_v = (λ q. k (whole ∙ ap₂ (λ (a b : ℕ). a * 2 ^ l + b) e (ap (bit_and (u % 2 ^ l)) (sym (part_zero l v) ∙ q) ∙ and_zero_r (u % 2 ^ l)) ∙ naught));
    }
    go (no e) f =
        let w : Shared l m (u / 2 ^ l) (v / 2 ^ l) = f e in
        record {
          bit = suc w.bit;
          low = omega (arith, w.low);
          in_u = (λ q. w.in_u (sym (part-suc l u w.bit) ∙ q));
          in_v = (λ q. w.in_v (sym (part-suc l v w.bit) ∙ q));
        }

-- a set's block is part of that of a union
or_zero : (a b : ℕ) → bit_or a b ≡ 0 → a ≡ 0
or_zero a b h = omega (arith, or_add_and a b, and_le_r a b)

part-or : (l u v b : ℕ) → part l (bit_or u v) b ≡ bit_or (part l u b) (part l v b)
unfolding part
part-or l u v b = ap (λ (w : ℕ). w % 2 ^ l) (or_shr u v (l * b)) ∙ or_mod (u / 2 ^ (l * b)) (v / 2 ^ (l * b)) l

touches_x : (l x z b : ℕ) → part l x b ≢ 0 → touches l x z b ≡ true
unfolding touches part
touches_x l x z b h = ap not (ne_eqb (part l (bit_or x z) b) 0 (λ e. h (or_zero (part l x b) (part l z b) (sym (part-or l x z b) ∙ e))))

touches_z : (l x z b : ℕ) → part l z b ≢ 0 → touches l x z b ≡ true
unfolding touches
touches_z l x z b h = ap (λ (w : ℕ). not (eqb (w / 2 ^ (l * b) % 2 ^ l) 0)) (or_comm x z) ∙ touches_x l z x b h

apart_none : (ax az bx bz : ℕ) → bit_and ax bz ≡ 0 → bit_and az bx ≡ 0 → apart ax az bx bz ≡ 0
unfolding apart count
apart_none ax az bx bz e f = ap₂ (λ (u v : ℕ). (count u + count v) % 2) e f

-- two axes whose sets are below 2 ^ (l m) and which anticommute touch a common bit below m
pub shared_bit : (l m ax az bx bz : ℕ) → ax < 2 ^ (l * m) → az < 2 ^ (l * m) → apart ax az bx bz ≡ 1
    → (b : ℕ) × (b < m) × (touches l ax az b ≡ true) × (touches l bx bz b ≡ true)
shared_bit l m ax az bx bz hx hz h = go (ℕ_discrete (bit_and ax bz) 0) (ℕ_discrete (bit_and az bx) 0)
  where
    clash : (w : ℕ) → w ≡ 1 → w ≡ 0 → ⊥
    clash w p q = omega arith

    go : Dec (bit_and ax bz ≡ 0) → Dec (bit_and az bx ≡ 0) → (b : ℕ) × (b < m) × (touches l ax az b ≡ true) × (touches l bx bz b ≡ true)
    go (no e) f =
        let w : Shared l m ax bz = common l m ax bz hx e in
        (w.bit, w.low, touches_x l ax az w.bit w.in_u, touches_z l bx bz w.bit w.in_v)
    go (yes e) (no f) =
        let w : Shared l m az bx = common l m az bx hz f in
        (w.bit, w.low, touches_z l ax az w.bit w.in_u, touches_x l bx bz w.bit w.in_v)
    go (yes e) (yes f) = absurd (clash (apart ax az bx bz) h (apart_none ax az bx bz e f))
