-- The answers of a look exclude each other, so each comes exactly when it is true; and what two looks on one state can differ in. Assumes nothing.
use Prim.Native.Nat.{ℕ, ◌<◌}
use mathlib.Core.Path.{◌≡◌, refl, sym, ap, ◌∙◌}
use native.Mathlib.Omega.{arith}
use native.Mathlib.Decide.{dec_lt}
use lib.IntN.{ℤ, ◌*ℤ◌}
use Rattle.model.specs.Pauli.{Pauli, sign}
use Rattle.model.specs.Events.{State, event_at}
use Rattle.model.specs.Search.{Look, found, none, blocked, out, sign_at}
use Rattle.model.specs.Demands.{Newest, InTheWay, Named, Says, NotOut, Exactly, SameLook}

-- there is one newest match
one_Newest : (s : State) (p : Pauli) (i j : ℕ) → Newest s p i → Newest s p j → i ≡ j
one_Newest s p i j m n = go (dec_lt i j) (dec_lt j i)
  where
    go : Dec (i < j) → Dec (j < i) → i ≡ j
    go (yes u) v = absurd (m.newest j u n.match)
    go (no u) (yes v) = absurd (n.newest i v m.match)
    go (no u) (no v) = omega arith

one_name : (s : State) (p : Pauli) (i j : ℕ) (g h : ℤ) → Named s p i g → Named s p j h → (i ≡ j) × (g ≡ h)
one_name s p i j g h m n =
    let e : i ≡ j = one_Newest s p i j m.newest n.newest in
    (e, m.relative ∙ ap (λ (w : ℕ). sign_at (event_at s.events w).body *ℤ sign p) e ∙ sym n.relative)

Barred : State → Pauli → Type 0
Barred s p = (id : ℕ) × (j : ℕ) × Newest s p id × InTheWay s p id j

Named-free : (s : State) (p : Pauli) (i : ℕ) (g : ℤ) → Named s p i g → Barred s p → ⊥
unfolding Barred
Named-free s p i g m b = m.free b.1 (rw (one_Newest s p i b.0 m.newest b.2) b.3)

-- two looks on one state
pub same_look : (s : State) (p : Pauli) (a b : Look) → Says s p a → Says s p b → SameLook a b
unfolding Barred
same_look s p (found i g u) (found j h v) m n = one_name s p i j g h m n
same_look s p (found i g u) (none v) m n = n i m.newest.match
same_look s p (found i g u) (blocked v) m n = Named-free s p i g m n
same_look s p (found i g u) (out v) m n = tt
same_look s p (none u) (found j h v) m n = m j n.newest.match
same_look s p (none u) (none v) m n = tt
same_look s p (none u) (blocked v) m n = m n.0 n.2.match
same_look s p (none u) (out v) m n = tt
same_look s p (blocked u) (found j h v) m n = Named-free s p j h n m
same_look s p (blocked u) (none v) m n = n m.0 m.2.match
same_look s p (blocked u) (blocked v) m n = tt
same_look s p (blocked u) (out v) m n = tt
same_look s p (out u) b m n = tt

-- an answer that says something and is not out is the one that is true
is_found : (a : Look) (i : ℕ) (g : ℤ) → NotOut a → SameLook (found i g 0) a → (steps : ℕ) × (a ≡ found i g steps)
is_found (found j h v) i g k m = (v, λ t. found (sym m.0 t) (sym m.1 t) v)
is_found (none v) i g k m = absurd m
is_found (blocked v) i g k m = absurd m
is_found (out v) i g k m = absurd k

is_none : (a : Look) → NotOut a → SameLook (none 0) a → (steps : ℕ) × (a ≡ none steps)
is_none (found j h v) k m = absurd m
is_none (none v) k m = (v, refl)
is_none (blocked v) k m = absurd m
is_none (out v) k m = absurd k

is_blocked : (a : Look) → NotOut a → SameLook (blocked 0) a → (steps : ℕ) × (a ≡ blocked steps)
is_blocked (found j h v) k m = absurd m
is_blocked (none v) k m = absurd m
is_blocked (blocked v) k m = (v, refl)
is_blocked (out v) k m = absurd k

-- what an answer says, by the answer that it is
said : (s : State) (p : Pauli) (a b : Look) → a ≡ b → Says s p a → Says s p b
said s p a b e m = rw e at m

pub exact : (s : State) (p : Pauli) (a : Look) → Says s p a → NotOut a → Exactly s p a
exact s p a m k = record {
  names = (λ i g. ((λ e. said s p a (found i g e.0) e.1 m), λ n. is_found a i g k (same_look s p (found i g 0) a n m)));
  finds_none = ((λ e. said s p a (none e.0) e.1 m), λ n. is_none a k (same_look s p (none 0) a n m));
  is_blocked = ((λ e. said s p a (blocked e.0) e.1 m), λ n. is_blocked a k (same_look s p (blocked 0) a n m));
}
