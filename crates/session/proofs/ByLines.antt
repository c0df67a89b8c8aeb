-- `output`, which goes byte by byte, is `output_by_lines` (`output_by_lines_lem`). Assumes nothing.
use Prim.Native.Nat.{ℕ, ◌+◌, ◌≤◌, ◌<◌}
use mathlib.Core.Path.{◌≡◌, refl, sym, ap, ◌∙◌}
use mathlib.Core.Bool.{Bool, true, false, cond}
use mathlib.Core.List.{List, [], ◌∷◌, ◌++◌, append_assoc, append-nil}
use native.Mathlib.Omega.{arith}
use borrow.Author.Tests.{ne_eqb, lt-ltb, ltb-true, ltb-false}
use lib.ListN.{length, length-append}
use lib.Dec.{eqb, ltb}
use Rattle.text.specs.Line.{reading_of}
use Rattle.text.specs.Spoken.{bad, spoken}
use Rattle.std.specs.Prelude.{Option, None}
use Rattle.text.specs.declared.lines.Line.{Line}
use Rattle.session.specs.Session.{Stage, qubits, Next, on, stop, Place, start, fresh, answered, heard, and_then, ran, last_saying, whole, output}
use Rattle.session.specs.ByLines.{Cut, in_front, cut, at_end, going_on, said_to, output_by_lines}
use Rattle.session.proofs.Theorems.{whole-saying}

abbrev place : (line : ℕ) → (held : List ℕ) → Stage → Place
place line held s = record { line = line; held = held; stage = s }

-- what is said to the lines and to what is left, with the bytes h in front
abbrev behind : (h : List ℕ) → (line : ℕ) → Stage → (ended : List (List ℕ)) → (left : List ℕ) → List ℕ
behind h line s [] left = said_to line s [] (h ++ left)
behind h line s (l ∷ ls) left = said_to line s ((h ++ l) ∷ ls) left

behind_none : (line : ℕ) (s : Stage) (ended : List (List ℕ)) (left : List ℕ) → behind [] line s ended left ≡ said_to line s ended left
behind_none line s [] left = refl
behind_none line s (l ∷ ls) left = refl

-- a byte between
behind_more : (h : List ℕ) (b line : ℕ) (s : Stage) (ended : List (List ℕ)) (left : List ℕ)
    → behind (h ++ (b ∷ [])) line s ended left ≡ behind h line s (in_front b ended left).ended (in_front b ended left).left
behind_more h b line s [] left = ap (said_to line s []) (append_assoc h (b ∷ []) left)
behind_more h b line s (l ∷ ls) left = ap (λ (z : List ℕ). said_to line s (z ∷ ls) left) (append_assoc h (b ∷ []) l)

-- ---- the end

at_end_lem : (line : ℕ) (h : List ℕ) (s : Stage) → last_saying (place line h s) ≡ at_end line s h
unfolding last_saying
at_end_lem line [] s = refl
at_end_lem line (b ∷ h) s = rw (ne_eqb (length (b ∷ h)) 0 (λ (z : length (b ∷ h) ≡ 0). omega arith)) refl

-- ---- the byte after 80

reading_long : (l : List ℕ) → 80 < length l → reading_of l ≡ None
unfolding reading_of
reading_long l h = rw (lt-ltb 80 (length l) h) refl

unended : (h : List ℕ) (b line : ℕ) (s : Stage) (left : List ℕ) → at_end line s (h ++ (b ∷ left)) ≡ bad (line + 1)
unended [] b line s left = refl
unended (a ∷ h) b line s left = refl

too_long : (h : List ℕ) (b line : ℕ) (s : Stage) (ended : List (List ℕ)) (left : List ℕ) → 80 ≤ length h
    → spoken (bad (line + 1)) ≡ behind h line s (in_front b ended left).ended (in_front b ended left).left
unfolding said_to
too_long h b line s [] left long = ap spoken (sym (unended h b line s left))
too_long h b line s (l ∷ ls) left long =
    let n : length (h ++ (b ∷ l)) ≡ length h + length (b ∷ l) = length-append h (b ∷ l) in
    let past : 80 < length (h ++ (b ∷ l)) = omega arith in
    ap (λ (p : Option Line). going_on (answered (line + 1) p s) (λ t. said_to (line + 1) t ls left)) (sym (reading_long (h ++ (b ∷ l)) past))

-- ---- any byte

-- from every place with at most 80 bytes held, the input is answered as its lines are
abbrev Same : (input : List ℕ) → (ended : List (List ℕ)) → (left : List ℕ) → Type 0
Same input ended left =
    (h : List ℕ) (line : ℕ) (s : Stage) → length h ≤ 80 → whole (ran (place line h s) input) ≡ behind h line s ended left

module _ (input : List ℕ) (ended : List (List ℕ)) (left : List ℕ) (same : Same input ended left) where
  newline : (line : ℕ) (x : Next Stage) → whole (and_then (fresh line x) (λ q. ran q input)) ≡ going_on x (λ t. said_to line t ended left)
  newline line (on s said) =
      whole-saying said (ran (place line [] s) input)
      ∙ ap (λ (z : List ℕ). said ++ z) (same [] line s (omega arith) ∙ behind_none line s ended left)
  newline line (stop said) = refl

  module _ (h : List ℕ) (line : ℕ) (s : Stage) (b : ℕ) where
    joins : (x : Bool) → ltb (length h) 80 ≡ x
        → whole (and_then (cond x (on (place line (h ++ (b ∷ [])) s) []) (stop (spoken (bad (line + 1))))) (λ q. ran q input))
        ≡ behind h line s (in_front b ended left).ended (in_front b ended left).left
    joins true e =
        let few : length h < 80 = ltb-true (length h) 80 e in
        let n : length (h ++ (b ∷ [])) ≡ length h + 1 = length-append h (b ∷ []) in
        whole-saying [] (ran (place line (h ++ (b ∷ [])) s) input) ∙ same (h ++ (b ∷ [])) line s (omega arith) ∙ behind_more h b line s ended left
    joins false e = too_long h b line s ended left (ltb-false (length h) 80 e)

    -- the cut with b in front, which is a newline or is not
    abbrev cut_after : Bool → Cut
    cut_after x = cond x (record { ended = [] ∷ ended; left = left }) (in_front b ended left)

    byte : (x : Bool)
        → whole
        (and_then
        (cond x (fresh (line + 1) (answered (line + 1) (reading_of h) s))
        (cond (ltb (length h) 80) (on (place line (h ++ (b ∷ [])) s) []) (stop (spoken (bad (line + 1))))))
        (λ q. ran q input))
        ≡ behind h line s (cut_after x).ended (cut_after x).left
    unfolding said_to
    byte true =
        newline (line + 1) (answered (line + 1) (reading_of h) s)
        ∙ ap (λ (l : List ℕ). going_on (answered (line + 1) (reading_of l) s) (λ t. said_to (line + 1) t ended left)) (sym (append-nil h))
    byte false = joins (ltb (length h) 80) refl

same_lines : (input : List ℕ) → Same input (cut input).ended (cut input).left
unfolding ran heard cut said_to
same_lines [] h line s few = ap spoken (at_end_lem line h s ∙ ap (at_end line s) (sym (append-nil h)))
same_lines (b ∷ input) h line s few = byte input (cut input).ended (cut input).left (same_lines input) h line s b (eqb b 10)

pub output_by_lines_lem : (input : List ℕ) → output input ≡ output_by_lines input
unfolding output output_by_lines start
output_by_lines_lem input = same_lines input [] 0 qubits (omega arith) ∙ behind_none 0 qubits (cut input).ended (cut input).left
