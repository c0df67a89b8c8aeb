-- Laws of words written one after the other. Assumes nothing.
use mathlib.Core.Path.{◌≡◌, refl, sym, ap, ◌∙◌}
use mathlib.Core.Logic.{inl, inr, ⊎_elim}
use mathlib.Core.List.{List}
use Prim.Native.Nat.{ℕ, ◌+◌, ◌<◌}
use native.Mathlib.Nat.{not-suc-le-zero}
use native.Mathlib.Omega.{arith}
use native.Mathlib.Decide.{ℕ_discrete}
use lib.ListN.{length, get_or, set, length-set}
use lib.Seq.{get_or-set_same, get_or-set_other}
use Rattle.pauli.specs.Fill.{Written}

pub written_none : (s : List ℕ) (at : ℕ) (w : ℕ → ℕ) → Written s at 0 w s
written_none s at w = record { same_length = refl; here = λ i h. absurd (not-suc-le-zero h); kept = λ k h. refl }

pub Written-more : (s t : List ℕ) (at i : ℕ) (w : ℕ → ℕ) (v : ℕ) → at + i < length s → v ≡ w i → Written s at i w t → Written s at (i + 1) w (set t (at + i) v)
Written-more s t at i w v h e m =
    let n = m.same_length in
    record {
      same_length = length-set t (at + i) v ∙ n;
      here = λ k l. elim (ℕ_discrete k i) [
        | yes d ↦ ap (λ (j : ℕ). get_or (set t (at + i) v) (at + j) 0) d ∙ get_or-set_same t (at + i) v 0 (omega arith) ∙ e ∙ ap w (sym d)
        | no d ↦ get_or-set_other t (at + i) (at + k) v 0 (λ f. omega arith) ∙ m.here k (omega arith)
      ];
      kept = λ k l. get_or-set_other t (at + i) k v 0 (λ f. ⊎_elim (λ z. omega arith) (λ z. omega arith) l)
          ∙ m.kept k (⊎_elim (λ z. inl z) (λ z. inr (omega arith)) l);
    }
