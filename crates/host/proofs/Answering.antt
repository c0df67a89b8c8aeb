-- What is given back and written of each answer. Assumes nothing.
use mathlib.Core.Path.{◌≡◌, sym, ap, ◌∙◌}
use mathlib.Core.Bool.{Bool}
use mathlib.Core.List.{List, ◌∷◌}
use Prim.Native.Nat.{ℕ, ◌≤◌}
use mir.Syntax.{w8}
use mir.Val.{SFits}
use Rattle.pauli.proofs.Signs.{bits8}
use lib.ListN.{length, set, drop}
use lib.IntN.{ℤ}
use Rattle.model.specs.Calls.{looked}
use Rattle.std.proofs.Common.{Result, Ok}
use Rattle.history.specs.declared.events.Rotation.{Rotation}
use Rattle.history.specs.declared.findings.Found.{Found}
use Rattle.history.specs.declared.findings.Found.TheVariants.{Partner}
use Rattle.store.specs.declared.refusals.Refusal.{Refusal}
use Rattle.store.specs.Promises.{told_read, seen_of}
use Rattle.host.specs.Host.{sign_word, bit, words_of, reading_words, look_words}
use Rattle.host.proofs.Written.{three, whole}

-- ---- the words of a look and of a read

pub Partner-words : (f : Found) (v : List ℕ) (id : ℕ) (g : ℤ) (n w : ℕ) (t : List ℕ) → f ≡ Partner id g → SFits w8 g → w ≡ sign_word (bits8 g) → t ≡ 1 ∷ id ∷ w ∷ n ∷ drop 4 v
    → t ≡ words_of (looked (seen_of f n)) v
unfolding words_of look_words seen_of
Partner-words f v id g n w t e small h k = (k ∙ ap (λ x. 1 ∷ id ∷ x ∷ n ∷ drop 4 v) (whole g small w h)) ∙ ap (λ x. words_of (looked (seen_of x n)) v) (sym e)

pub read-words : (a : Result Rotation Refusal) (v : List ℕ) (r : Rotation) (w b : ℕ) → 3 ≤ length v → a ≡ Ok r → SFits w8 r.sign → w ≡ sign_word (bits8 r.sign) → b ≡ bit r.live
    → set (set (set v 0 r.tag) 1 w) 2 b ≡ words_of (told_read a) v
unfolding told_read words_of reading_words
read-words a v r w b l e small f h = three v r.tag w b l ∙ (ap (λ x. r.tag ∷ x ∷ b ∷ drop 3 v) (whole r.sign small w f) ∙ (ap (λ x. r.tag ∷ sign_word r.sign ∷ x ∷ drop 3 v) h ∙ ap (λ x. words_of (told_read x) v) (sym e)))
