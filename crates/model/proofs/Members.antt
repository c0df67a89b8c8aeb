-- Membership, `keep`, `some`, and lists whose numbers rise. Assumes nothing.
use Prim.Native.Nat.{ℕ, zero, suc, ◌+◌, ◌≤◌, ◌<◌}
use mathlib.Core.Path.{◌≡◌, refl, sym, ap, ◌∙◌, subst}
use mathlib.Core.Logic.{◌⊎◌, inl, inr, ⊎_elim}
use mathlib.Core.Bool.{Bool, true, false, cond, not, ◌&&◌, true≢false, false≢true}
use mathlib.Core.List.{List, [], ◌∷◌, ◌++◌}
use native.Mathlib.Omega.{arith}
use native.Mathlib.Decide.{ℕ_discrete}
use lib.ListN.{length}
use Rattle.model.specs.Frame.{from}
use Rattle.model.specs.Events.{keep, some}
use Rattle.model.specs.Demands.{Mem, Rising}

pub clash : {A : Type 0} (t : Bool) → t ≡ true → t ≡ false → A
clash t p q = absurd (true≢false (sym p ∙ q))

pub and_both : (a b : Bool) → (a && b) ≡ true → (a ≡ true) × (b ≡ true)
and_both true b h = (refl, h)
and_both false b h = absurd (false≢true h)

pub both_and : (a b : Bool) → a ≡ true → b ≡ true → (a && b) ≡ true
both_and a b h k = ap (λ (x : Bool). x && b) h ∙ k

module _ {A : Type 0} where
  pub Mem-left : (i : A) (s t : List A) → Mem i s → Mem i (s ++ t)
  Mem-left i [] t m = absurd m
  Mem-left i (a ∷ s) t (inl e) = inl e
  Mem-left i (a ∷ s) t (inr m) = inr (Mem-left i s t m)

  pub Mem-right : (i : A) (s t : List A) → Mem i t → Mem i (s ++ t)
  Mem-right i [] t m = m
  Mem-right i (a ∷ s) t m = inr (Mem-right i s t m)

  pub Mem-append : (i : A) (s t : List A) → Mem i (s ++ t) → Mem i s ⊎ Mem i t
  Mem-append i [] t m = inr m
  Mem-append i (a ∷ s) t (inl e) = inl (inl e)
  Mem-append i (a ∷ s) t (inr m) = ⊎_elim (λ k. inl (inr k)) (λ k. inr k) (Mem-append i s t m)

  -- ---- keep

  pub keep_yes : (p : A → Bool) (a : A) (s : List A) → p a ≡ true → keep p (a ∷ s) ≡ a ∷ keep p s
  unfolding keep
  keep_yes p a s e = rw e

  pub keep_no : (p : A → Bool) (a : A) (s : List A) → p a ≡ false → keep p (a ∷ s) ≡ keep p s
  unfolding keep
  keep_no p a s e = rw e

  pub Mem-keep : (p : A → Bool) (i : A) (s : List A) → Mem i s → p i ≡ true → Mem i (keep p s)
  Mem-keep p i [] m h = absurd m
  Mem-keep p i (a ∷ s) (inl e) h = rw (keep_yes p a s (ap p (sym e) ∙ h)) (inl e)
  Mem-keep p i (a ∷ s) (inr m) h = go (p a) refl (Mem-keep p i s m h)
    where
      go : (t : Bool) → p a ≡ t → Mem i (keep p s) → Mem i (keep p (a ∷ s))
      go true e k = rw (keep_yes p a s e) (inr k)
      go false e k = rw (keep_no p a s e) k

  pub keep-Mem : (p : A → Bool) (i : A) (s : List A) → Mem i (keep p s) → Mem i s × (p i ≡ true)
  unfolding keep
  keep-Mem p i [] m = absurd m
  keep-Mem p i (a ∷ s) m = go (p a) refl (λ k. keep-Mem p i s k)
    where
      go : (t : Bool) → p a ≡ t → (Mem i (keep p s) → Mem i s × (p i ≡ true)) → Mem i (a ∷ s) × (p i ≡ true)
      go true e f = ⊎_elim (λ q. (inl q, ap p q ∙ e)) (λ k. (inr (f k).0, (f k).1)) (rw (keep_yes p a s e) at m)
      go false e f = let k : Mem i (keep p s) = rw (keep_no p a s e) at m in (inr (f k).0, (f k).1)

  pub keep_same : (p q : A → Bool) (s : List A) → ((i : A) → Mem i s → p i ≡ q i) → keep p s ≡ keep q s
  unfolding keep
  keep_same p q [] h = refl
  keep_same p q (a ∷ s) h = rw (h a (inl refl), keep_same p q s (λ i m. h i (inr m)))

  pub keep_none : (p : A → Bool) (s : List A) → ((i : A) → Mem i s → p i ≡ false) → keep p s ≡ []
  unfolding keep
  keep_none p [] h = refl
  keep_none p (a ∷ s) h = keep_no p a s (h a (inl refl)) ∙ keep_none p s (λ i m. h i (inr m))

  pub keep_append : (p : A → Bool) (s t : List A) → keep p (s ++ t) ≡ keep p s ++ keep p t
  unfolding keep
  keep_append p [] t = refl
  keep_append p (a ∷ s) t = go (p a) refl (keep_append p s t)
    where
      go : (b : Bool) → p a ≡ b → keep p (s ++ t) ≡ keep p s ++ keep p t → keep p (a ∷ (s ++ t)) ≡ keep p (a ∷ s) ++ keep p t
      go true e h = keep_yes p a (s ++ t) e ∙ ap {B = List A} (λ w. a ∷ w) h ∙ sym (ap {B = List A} (λ w. w ++ keep p t) (keep_yes p a s e))
      go false e h = keep_no p a (s ++ t) e ∙ h ∙ sym (ap {B = List A} (λ w. w ++ keep p t) (keep_no p a s e))

  pub length-keep : (p : A → Bool) (s : List A) → length (keep p s) ≤ length s
  unfolding keep
  length-keep p [] = omega arith
  length-keep p (a ∷ s) = go (p a) refl (length-keep p s)
    where
      go : (b : Bool) → p a ≡ b → length (keep p s) ≤ length s → length (keep p (a ∷ s)) ≤ suc (length s)
      go true e h = rw (keep_yes p a s e) (omega arith)
      go false e h = rw (keep_no p a s e) (omega arith)

  -- what passes a test, and what does not
  pub keep_both : (p : A → Bool) (s : List A) → length (keep p s) + length (keep (λ i. not (p i)) s) ≡ length s
  unfolding keep
  keep_both p [] = refl
  keep_both p (a ∷ s) = go (p a) refl (keep_both p s)
    where
      go : (b : Bool) → p a ≡ b → length (keep p s) + length (keep (λ i. not (p i)) s) ≡ length s
          → length (keep p (a ∷ s)) + length (keep (λ i. not (p i)) (a ∷ s)) ≡ suc (length s)
      go true e h = rw (keep_yes p a s e, keep_no (λ i. not (p i)) a s (ap not e)) (omega arith)
      go false e h = rw (keep_no p a s e, keep_yes (λ i. not (p i)) a s (ap not e)) (omega arith)

  -- ---- some

  pub Mem-some : (p : A → Bool) (i : A) (s : List A) → Mem i s → p i ≡ true → some p s ≡ true
  unfolding some
  Mem-some p i [] m h = absurd m
  Mem-some p i (a ∷ s) (inl e) h = rw (ap p (sym e) ∙ h)
  Mem-some p i (a ∷ s) (inr m) h = go (p a) (Mem-some p i s m h)
    where
      go : (t : Bool) → some p s ≡ true → cond t true (some p s) ≡ true
      go true k = refl
      go false k = k

  pub some-Mem : (p : A → Bool) (s : List A) → some p s ≡ true → (i : A) × Mem i s × (p i ≡ true)
  unfolding some
  some-Mem p [] h = absurd (false≢true h)
  some-Mem p (a ∷ s) h = go (p a) refl h (λ k. some-Mem p s k)
    where
      go : (t : Bool) → p a ≡ t → cond t true (some p s) ≡ true → (some p s ≡ true → (i : A) × Mem i s × (p i ≡ true)) → (i : A) × Mem i (a ∷ s) × (p i ≡ true)
      go true e k f = (a, inl refl, e)
      go false e k f = let w : (i : A) × Mem i s × (p i ≡ true) = f k in (w.0, inr w.1, w.2)

-- two tests agree when each follows from the other
pub same_bool : (a b : Bool) → (a ≡ true → b ≡ true) → (b ≡ true → a ≡ true) → a ≡ b
same_bool true b f g = sym (f refl)
same_bool false true f g = g refl
same_bool false false f g = refl

-- ---- numbers in a row

pub Mem-from : (k n i : ℕ) → k ≤ i → i < k + n → Mem i (from k n)
unfolding from
Mem-from k zero i h j = absurd (none k i h j)
  where
    none : (k i : ℕ) → k ≤ i → i < k + 0 → ⊥
    none k i h j = omega arith
Mem-from k (suc n) i h j = go (ℕ_discrete i k) (Mem-from (suc k) n i)
  where
    go : Dec (i ≡ k) → (suc k ≤ i → i < suc k + n → Mem i (from (suc k) n)) → Mem i (k ∷ from (suc k) n)
    go (yes e) f = inl e
    go (no e) f = inr (f (omega arith) (omega arith))

pub from-Mem : (k n i : ℕ) → Mem i (from k n) → (k ≤ i) × (i < k + n)
unfolding from
from-Mem k zero i m = absurd m
from-Mem k (suc n) i (inl e) = (omega arith, omega arith)
from-Mem k (suc n) i (inr m) = let w : (suc k ≤ i) × (i < suc k + n) = from-Mem (suc k) n i m in (omega arith, omega arith)

-- ---- rising lists

pub rising_snoc : (s : List ℕ) (k : ℕ) → Rising s → ((i : ℕ) → Mem i s → i < k) → Rising (s ++ (k ∷ []))
rising_snoc [] k r h = ((λ i m. absurd m), tt)
rising_snoc (a ∷ s) k r h = (
  (λ i m. ⊎_elim (r.0 i) (⊎_elim (λ e. subst (λ (w : ℕ). a < w) (sym e) (h a (inl refl))) (λ m. absurd m)) (Mem-append i s (k ∷ []) m)),
  rising_snoc s k r.1 (λ i m. h i (inr m)),
)

pub Rising-keep : (p : ℕ → Bool) (s : List ℕ) → Rising s → Rising (keep p s)
unfolding keep
Rising-keep p [] r = tt
Rising-keep p (a ∷ s) r = go (p a) refl (Rising-keep p s r.1)
  where
    go : (t : Bool) → p a ≡ t → Rising (keep p s) → Rising (keep p (a ∷ s))
    go true e k = rw (keep_yes p a s e) ((λ i m. r.0 i (keep-Mem p i s m).0), k)
    go false e k = rw (keep_no p a s e) k
