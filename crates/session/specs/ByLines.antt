-- WHAT THE LINE PROGRAM SAYS, a second time and by whole lines (`output_by_lines`): the input is cut at its newlines, and the lines are answered one behind the
-- other. `output` of Session.antt says the same byte by byte (`output_by_lines_lem`). It computes. Assumes nothing.
use Rattle.std.specs.Prelude.{ℕ, ◌+◌, cond, List, [], ◌∷◌, ◌++◌, eqb}
use Rattle.text.specs.Line.{reading_of}
use Rattle.text.specs.Spoken.{Saying, bad, spoken}
use Rattle.session.specs.Session.{Stage, qubits, Next, on, stop, answered, finished}

-- ---- lines

-- "Lines [..], each ended by newline": those, without their newlines, and the bytes left behind the last newline
pub record Cut : Type 0 where
  pub ended : List (List ℕ)
  pub left : List ℕ

-- a byte more in front, other than a newline: it begins the first line, or what is left if no line is ended
abbrev pub in_front : (b : ℕ) → (ended : List (List ℕ)) → (left : List ℕ) → Cut
in_front b [] left = record { ended = []; left = b ∷ left }
in_front b (l ∷ ls) left = record { ended = (b ∷ l) ∷ ls; left = left }

-- a newline, byte 10, ends a line that is empty so far; the bytes before it come in front
unfoldable pub cut : List ℕ → Cut
cut [] = record { ended = []; left = [] }
cut (b ∷ input) =
    cond (eqb b 10) (record { ended = [] ∷ (cut input).ended; left = (cut input).left }) (in_front b (cut input).ended (cut input).left)

-- ---- answers

-- "Input that ends before the header and labels are whole [prints `line=N answer=bad`] with the number after the last line"; bytes left that no newline ends do too.
abbrev pub at_end : (line : ℕ) → Stage → (left : List ℕ) → Saying
at_end line s [] = finished line s
at_end line s (b ∷ left) = bad (line + 1)

-- what is said to a line, and then, unless that stops, to the lines behind it
abbrev pub going_on : Next Stage → (Stage → List ℕ) → List ℕ
going_on (on s said) rest = said ++ rest s
going_on (stop said) rest = said

-- What is said in the stage s, `line` lines being read, to the lines that follow and to what is left. "Lines of at most 80 bytes": `reading_of` refuses a longer one.
unfoldable pub said_to : (line : ℕ) → Stage → (ended : List (List ℕ)) → (left : List ℕ) → List ℕ
said_to line s [] left = spoken (at_end line s left)
said_to line s (l ∷ ls) left = going_on (answered (line + 1) (reading_of l) s) (λ t. said_to (line + 1) t ls left)

unfoldable pub output_by_lines : (input : List ℕ) → List ℕ
output_by_lines input = said_to 0 qubits (cut input).ended (cut input).left
