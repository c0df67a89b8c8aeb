-- Whether the qubits of a call are there and differ, as the code finds it. Assumes nothing.
use mathlib.Core.Path.{◌≡◌, refl, sym, ap, ◌∙◌}
use mathlib.Core.Bool.{Bool, true, false, cond, ◌||◌}
use mathlib.Core.List.{List, [], ◌∷◌}
use Prim.Native.Nat.{ℕ, zero, suc, ◌+◌, ◌-◌, ◌<◌, ◌≤◌}
use native.Mathlib.Omega.{arith}
use lib.ListN.{length, get_or, take, drop}
use lib.Dec.{eqb, leb}
use borrow.Author.Tests.{eqb-true, eq-eqb, ne_eqb, eqb-false, le-leb, lt-leb}
use borrow.Author.Count.{below_more}
use Rattle.std.specs.List.{list_any, All, Any}
use Rattle.std.proofs.lemmas.List.{take_rest}
use Rattle.model.specs.Events.{some}
use Rattle.model.specs.Calls.{twice}
use Rattle.store.specs.Promises.{qubit_number}

some_is : {A : Type 0} (p : A → Bool) (s : List A) → list_any p s ≡ some p s
unfolding some
some_is p [] = refl
some_is p (a ∷ s) = go (p a) (some_is p s)
  where
    go : {u v : Bool} (t : Bool) → u ≡ v → (t || u) ≡ cond t true v
    go true e = refl
    go false e = e

-- `eqb` the other way round
some_swap : (a : ℕ) (s : List ℕ) → some (eqb a) s ≡ some (λ y. eqb y a) s
unfolding some
some_swap a [] = refl
some_swap a (b ∷ s) = rw (eqb_swap a b, some_swap a s) refl
  where
    eqb_swap : (a b : ℕ) → eqb a b ≡ eqb b a
    eqb_swap a b = go (eqb b a) refl
      where
        go : (t : Bool) → eqb b a ≡ t → eqb a b ≡ t
        go true e = eq-eqb a b (sym (eqb-true b a e))
        go false e = ne_eqb a b (λ q. eqb-false b a e (sym q))

-- whether the qubit at i stands again behind it
abbrev again : List ℕ → ℕ → Bool
again s i = list_any (λ y. eqb y (get_or s i 0)) (drop (suc i) s)

first_again : (a : ℕ) (s : List ℕ) → some (eqb a) s ≡ list_any (λ y. eqb y a) s
first_again a s = some_swap a s ∙ sym (some_is (λ y. eqb y a) s)

again_twice : (s : List ℕ) (i : ℕ) → i < length s → again s i ≡ true → twice s ≡ true
unfolding twice
again_twice [] i h e = absurd (omega arith)
again_twice (a ∷ s) zero h e = rw (first_again a s, e) refl
again_twice (a ∷ s) (suc i) h e = rw (again_twice s i (omega arith) e) (go (some (eqb a) s))
  where
    go : (t : Bool) → (t || true) ≡ true
    go true = refl
    go false = refl

none_twice : (s : List ℕ) → ((i : ℕ) → i < length s → again s i ≡ false) → twice s ≡ false
unfolding twice
none_twice [] h = refl
none_twice (a ∷ s) h = rw (first_again a s, h 0 (omega arith), none_twice s (λ i l. h (suc i) (omega arith))) refl

-- ---- what the code finds

rest_is : (s : List ℕ) (i : ℕ) (t : Bool) → t ≡ list_any (λ y. eqb y (get_or s i 0)) (take (length s - (i + 1)) (drop (i + 1) s)) → again s i ≡ t
rest_is s i t e = sym (e ∙ ap (list_any (λ y. eqb y (get_or s i 0))) (take_rest s (i + 1) ∙ ap (λ (k : ℕ). drop k s) next))
  where
    next : i + 1 ≡ suc i
    next = omega arith

-- none of the qubits before i stands again behind it
abbrev pub NoneAgain : List ℕ → ℕ → Type 0
NoneAgain s i = (k : ℕ) → k < i → again s k ≡ false

pub none_more : (s : List ℕ) (i : ℕ) → NoneAgain s i → false ≡ list_any (λ y. eqb y (get_or s i 0)) (take (length s - (i + 1)) (drop (i + 1) s)) → NoneAgain s (i + 1)
none_more s i h e = below_more _ _ h (rest_is s i false e)

any_some : (n : ℕ) (s : List ℕ) (k x : ℕ) → k < length s → get_or s k x ≡ x → n ≤ x → some (leb n) s ≡ true
unfolding some
any_some n [] k x h e l = absurd (omega arith)
any_some n (a ∷ s) zero x h e l = let m : n ≤ a = omega (arith, e, l) in rw (le-leb n a m) refl
any_some n (a ∷ s) (suc k) x h e l = rw (any_some n s k x (omega arith) e l) (go (leb n a))
  where
    go : (t : Bool) → cond t true true ≡ true
    go true = refl
    go false = refl

all_none : (n : ℕ) (s : List ℕ) → ((k : ℕ) → k < length s → get_or s k 0 < n) → some (leb n) s ≡ false
unfolding some
all_none n [] h = refl
all_none n (a ∷ s) h = rw (lt-leb n a (h 0 (omega arith)), all_none n s (λ k l. h (suc k) (omega arith))) refl

module _ (n : ℕ) (s : List ℕ) where
  pub beyond : Any (λ q. n ≤ q) s → 4 ≡ qubit_number n s
  unfolding qubit_number
  beyond a = rw (any_some n s a.0 a.1 a.2 a.3 a.4) refl

  module _ (all : All (λ q. q < n) s) where
    none : some (leb n) s ≡ false
    none = all_none n s (λ k l. all k 0 l)

    pub same : (i : ℕ) → i < length s → true ≡ list_any (λ y. eqb y (get_or s i 0)) (take (length s - (i + 1)) (drop (i + 1) s)) → 5 ≡ qubit_number n s
    unfolding qubit_number
    same i h e = rw (none, again_twice s i h (rest_is s i true e)) refl

    pub apart : NoneAgain s (length s) → 0 ≡ qubit_number n s
    unfolding qubit_number
    apart h = rw (none, none_twice s h) refl

-- ---- one qubit

pub single_out : (n q : ℕ) → n ≤ q → 4 ≡ qubit_number n (q ∷ [])
unfolding qubit_number some twice
single_out n q h = rw (le-leb n q h) refl

pub single_in : (n q : ℕ) → q < n → 0 ≡ qubit_number n (q ∷ [])
unfolding qubit_number some twice
single_in n q h = rw (lt-leb n q h) refl
