-- A text has one reading (`unique`), a line has one text (`one_line`), and `reading_of` is that reading (`reading_Reads`, `read_is`). Assumes nothing.
use Prim.Native.Nat.{ℕ, zero, suc, ◌+◌, ◌≤◌, ◌<◌}
use mathlib.Core.Path.{◌≡◌, refl, sym, ◌∙◌, ap}
use mathlib.Core.List.{List, [], ◌∷◌, ◌++◌}
use native.Mathlib.Omega.{arith}
use borrow.Author.Tests.{ltb-true, ltb-false, le-ltb, lt-ltb}
use lib.Dec.{ltb}
use lib.ListN.{length, drop, drop_of_length-le}
use lib.Seq.{drop-cons}
use native.Mathlib.Numerals.{add-one}
use Rattle.text.specs.Fit.{fitted, zeros}
use Rattle.text.specs.Line.{text, Legal, Reads, Row, header_rows, gate_rows, call_rows, look_rows, rows, on_fit, read_rows, reading_of}
use Rattle.text.specs.Shape.{bytes}
use Rattle.std.specs.Prelude.{Option, Some, None}
use Rattle.std.specs.Option.{option_or}
use Rattle.text.specs.declared.shapes.Five.{Five}
use Rattle.text.specs.declared.lines.Line.{Line}
use Rattle.text.proofs.Tests.{decided}
use Rattle.text.proofs.Rows.{row_at, shape_at, line_of}
use Rattle.text.proofs.LineLaws.{NoneBefore, Reads-hit, reads_none, Reads-long, one_more}

-- ---- no two readings

pub unique : (s : List ℕ) (q r : Option Line) → Reads s q → Reads s r → q ≡ r
unique s (Some l) r h k = let p = h.only l refl in sym (k.all l p.0 p.1)
unique s None (Some l) h k = let p = k.only l refl in h.all l p.0 p.1
unique s None None h k = refl

-- ---- the reading as a function

step : (s : List ℕ) (k : ℕ) → k < 26 → length s ≤ 80 → NoneBefore s k
    → (x : Option Five) → fitted (shape_at k) zeros s ≡ x → (rest : Option Line) → (NoneBefore s (k + 1) → Reads s rest)
    → Reads s (on_fit x (row_at k).makes rest)
step s k h m p (Some f) e rest ih = Reads-hit s k f h e (line_of k f) refl m
step s k h m p None e rest ih = ih (one_more s k p e)

walk : (s : List ℕ) (n k : ℕ) → n + k ≡ 26 → length s ≤ 80 → NoneBefore s k → Reads s (read_rows (drop k rows) s)
unfolding read_rows
walk s zero k e m p =
    let full : 26 ≤ k = omega arith in
    rw (drop_of_length-le rows full) (reads_none s (λ j h. p j (omega arith)))
walk s (suc n) k e m p =
    let h : k < 26 = omega arith in
    rw (drop-cons rows k (row_at 26) h)
    (step s k h m p (fitted (shape_at k) zeros s) refl (read_rows (drop (suc k) rows) s) (λ q. walk s n (suc k) (omega arith) m (rw add-one at q)))

pub reading_Reads : (s : List ℕ) → Reads s (reading_of s)
unfolding reading_of
reading_Reads s =
    decided (ltb 80 (length s))
    (λ e. rw e (Reads-long s (ltb-true _ _ e)))
    (λ e. rw e (walk s 26 0 refl (ltb-false _ _ e) (λ j h. absurd (omega arith))))

-- so the rows may be tried a family behind the other
either : (x : Option Five) (f : Five → Line) (q r : Option Line) → on_fit x f (option_or q r) ≡ option_or (on_fit x f q) r
either (Some v) f q r = refl
either None f q r = refl

read_rows-append : (xs ys : List Row) (s : List ℕ) → read_rows (xs ++ ys) s ≡ option_or (read_rows xs s) (read_rows ys s)
unfolding read_rows
read_rows-append [] ys s = refl
read_rows-append (x ∷ xs) ys s = rw (read_rows-append xs ys s) (either (fitted (bytes x.shape) zeros s) x.makes (read_rows xs s) (read_rows ys s))

pub reading_of-short : (s : List ℕ) → length s ≤ 80
    → reading_of s ≡ option_or (read_rows header_rows s) (option_or (read_rows gate_rows s) (option_or (read_rows call_rows s) (read_rows look_rows s)))
unfolding reading_of
reading_of-short s h =
    rw (le-ltb 80 (length s) h)
    (read_rows-append header_rows (gate_rows ++ (call_rows ++ look_rows)) s
    ∙ ap (option_or (read_rows header_rows s)) (read_rows-append gate_rows (call_rows ++ look_rows) s)
    ∙ ap (λ (r : Option Line). option_or (read_rows header_rows s) (option_or (read_rows gate_rows s) r)) (read_rows-append call_rows look_rows s))

-- so an answer that meets `Reads` is `reading_of`
pub read_is : (s : List ℕ) (r : Option Line) → Reads s r → r ≡ reading_of s
read_is s r h = unique s r (reading_of s) h (reading_Reads s)

-- and what is `reading_of` meets `Reads`
pub Reads-reading : (s : List ℕ) (r : Option Line) → r ≡ reading_of s → Reads s r
Reads-reading s r e = rw e (reading_Reads s)

pub reading_of-long : (s : List ℕ) → 80 < length s → reading_of s ≡ None
unfolding reading_of
reading_of-long s h = rw (lt-ltb 80 (length s) h)

pub ruleset readings = (reading_of-short, reading_of-long, Reads-reading)

-- no two legal lines share a text
pub one_line : (l m : Line) → Legal l → Legal m → text l ≡ text m → l ≡ m
one_line l m g h e =
    let p : reading_of (text m) ≡ Some l = (reading_Reads (text m)).all l g e in
    let q : reading_of (text m) ≡ Some m = (reading_Reads (text m)).all m h refl in
    cc
