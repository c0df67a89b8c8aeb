-- The signature by qubits: bit b of an axis is 1 exactly when some qubit q with q / l = b is in its X or Z set. Assumes nothing.
use Prim.Native.Nat.{ℕ, zero, suc, ◌+◌, ◌*◌, ◌/◌, ◌%◌, ◌^◌, ◌<◌}
use mathlib.Core.Path.{◌≡◌, sym, ap, ◌∙◌, subst}
use mathlib.Core.Logic.{◌≢◌, ◌↔◌}
use mathlib.Core.Bool.{true, not}
use native.Mathlib.Omega.{arith}
use native.Mathlib.Decide.{ℕ_discrete}
use native.Mathlib.Nat.{not-suc-le-zero, mod-lt, mod-one, div-add-mod'}
use native.Mathlib.Numerals.{add-one}
use lib.Arith.{digits_div}
use lib.Pow.{mod-pow-add, shr-shr}
use lib.Bits.{bit_or}
use lib.Dec.{eqb}
use borrow.Author.Tests.{not-true, ne_eqb, eqb-false}
use Rattle.model.specs.Pauli.{has}
use Rattle.model.specs.Events.{touches}

digit_zero : (u : ℕ) → has u 0 ≡ u % 2
unfolding has
digit_zero u = ap (λ (w : ℕ). w % 2) one
  where
    one : u / 1 ≡ u
    one = omega arith

digit_shift : (u a r : ℕ) → has (u / 2 ^ a) r ≡ has u (a + r)
unfolding has
digit_shift u a r = ap (λ (w : ℕ). w % 2) (shr-shr u a r)

digit_suc : (u r : ℕ) → has (u / 2) r ≡ has u (suc r)
digit_suc u r = digit_shift u 1 r ∙ ap (has u) line
  where
    line : 1 + r ≡ suc r
    line = omega arith

low_digits : (u l : ℕ) → u % 2 ^ suc l ≡ (u / 2 % 2 ^ l) * 2 + u % 2
low_digits u l = ap (λ (w : ℕ). u % 2 ^ w) (sym (add-one l)) ∙ mod-pow-add u l 1

-- among the l lowest digits one is set
some_digit : (l u : ℕ) → u % 2 ^ l ≢ 0 → (r : ℕ) × (r < l) × (has u r ≡ 1)
some_digit zero u h = absurd (h (mod-one u))
some_digit (suc l) u h = go (ℕ_discrete (u % 2) 0) (some_digit l (u / 2))
  where
    go : Dec (u % 2 ≡ 0) → (u / 2 % 2 ^ l ≢ 0 → (r : ℕ) × (r < l) × (has (u / 2) r ≡ 1)) → (r : ℕ) × (r < suc l) × (has u r ≡ 1)
    go (yes e) f =
        let w : (r : ℕ) × (r < l) × (has (u / 2) r ≡ 1) = f (λ k. h (low_digits u l ∙ zeros (u / 2 % 2 ^ l) (u % 2) k e)) in
        (suc w.0, omega (arith, w.1), sym (digit_suc u w.0) ∙ w.2)
      where
        zeros : (a b : ℕ) → a ≡ 0 → b ≡ 0 → a * 2 + b ≡ 0
        zeros a b p q = omega arith
    go (no e) f = (0, omega arith, digit_zero u ∙ one)
      where
        one : u % 2 ≡ 1
        one = omega arith

digit_some : (l u r : ℕ) → r < l → has u r ≡ 1 → u % 2 ^ l ≢ 0
digit_some zero u r h e k = not-suc-le-zero h
digit_some (suc l) u zero h e k = wrong (u / 2 % 2 ^ l) (u % 2) (sym (digit_zero u) ∙ e) (sym (low_digits u l) ∙ k)
  where
    wrong : (a b : ℕ) → b ≡ 1 → a * 2 + b ≡ 0 → ⊥
    wrong a b p q = omega arith
digit_some (suc l) u (suc r) h e k = digit_some l (u / 2) r (omega arith) (digit_suc u r ∙ e) (high (u / 2 % 2 ^ l) (u % 2) (sym (low_digits u l) ∙ k))
  where
    high : (a b : ℕ) → a * 2 + b ≡ 0 → a ≡ 0
    high a b q = omega arith

touches_qubit : (l x z b : ℕ) → touches l x z b ≡ true → (q : ℕ) × (q / l ≡ b) × (has (bit_or x z) q ≡ 1)
unfolding touches
touches_qubit l x z b h =
    let w : (r : ℕ) × (r < l) × (has (bit_or x z / 2 ^ (l * b)) r ≡ 1)
    = some_digit l (bit_or x z / 2 ^ (l * b)) (eqb-false (bit_or x z / 2 ^ (l * b) % 2 ^ l) 0 (not-true (eqb (bit_or x z / 2 ^ (l * b) % 2 ^ l) 0) h)) in
    (l * b + w.0, ap (λ (y : ℕ). y / l) (line w.0) ∙ digits_div b w.1, sym (digit_shift (bit_or x z) (l * b) w.0) ∙ w.2)
  where
    line : (r : ℕ) → l * b + r ≡ b * l + r
    line r = omega arith

qubit_touches : (l x z q : ℕ) → 0 < l → has (bit_or x z) q ≡ 1 → touches l x z (q / l) ≡ true
unfolding touches
qubit_touches l x z q h e =
    ap not (ne_eqb (bit_or x z / 2 ^ (l * (q / l)) % 2 ^ l) 0
    (digit_some l (bit_or x z / 2 ^ (l * (q / l))) (q % l) (mod-lt q h) (digit_shift (bit_or x z) (l * (q / l)) (q % l) ∙ ap (has (bit_or x z)) whole ∙ e)))
  where
    whole : l * (q / l) + q % l ≡ q
    whole = omega (arith, div-add-mod' q l)

-- bit b of a signature is 1 exactly when some qubit q with q / l = b is in the X or the Z set
pub signature_bit : (l x z b : ℕ) → 0 < l → (touches l x z b ≡ true) ↔ ((q : ℕ) × (q / l ≡ b) × (has (bit_or x z) q ≡ 1))
signature_bit l x z b h = (touches_qubit l x z b, λ w. subst (λ (c : ℕ). touches l x z c ≡ true) w.1 (qubit_touches l x z w.0 h w.2))
