-- WHAT THE LINE PROGRAM SAYS on an input, bytes in and bytes out (`output`): 01, "The line program", and docs/DECISIONS.md, 10, where 01 leaves it open. Lines are
-- read by `text`'s `reading_of`, the inverse of their printer (`reading_Reads`), answered by `model`'s calls and written by `text`'s `spoken`. It computes. Assumes nothing.
use Rattle.std.specs.Prelude.{ℕ, ◌+◌, cond, List, [], ◌∷◌, ◌++◌, length, eqb, ltb, leb, Option, Some, None}
use Rattle.model.specs.Events.{Form, Opening, State}
use Rattle.model.specs.Calls.{Call, call_look, open_answer, opened, opening, reply, call, tally}
use Rattle.frame.specs.Axes.{kind_of}
use Rattle.history.specs.Sizes.{form_of}
use Rattle.partner.specs.Calls.{call_in}
use Rattle.text.specs.Line.{reading_of}
use Rattle.text.specs.Spoken.{Saying, replied, bad, not_opened, end, spoken}
use Rattle.text.specs.declared.lines.Line.{Line}
use Rattle.session.specs.Kinds.{as_qubits, as_form, as_events, as_steps, as_label, as_operation}

-- The words of the program's store: the need of 32 qubits and 48 events in the sliced form (`room_is_need`), enough for every job that it takes
-- (`room_enough`).
abbrev pub room : ℕ
room = 4401

-- ---- where a job stands

-- Which line comes next, with what the lines before it gave: one of the "four header lines", the next of the "n label lines in qubit order" (q of them are
-- read, ws are their words), or an operation.
pub data Stage : Type 0 where
  qubits : Stage
  form : (n : ℕ) → Stage
  events : (n : ℕ) → Form → Stage
  steps : (n : ℕ) → Form → (E : ℕ) → Stage
  labelling : (n : ℕ) → Form → (E A q : ℕ) → (ws : List ℕ) → Stage
  running : State → Stage

-- to go on from there, or to stop; and what is said
pub data Next (A : Type 0) : Type 0 where
  on : A → (said : List ℕ) → Next A
  stop : (said : List ℕ) → Next A

-- ---- one line

-- what a header or label line leads to, where it is the one that comes next
pub data Headed : Type 0 where
  next : Stage → Headed
  none : Headed

-- "a header naming more than 32 qubits or 48 events" is bad; so is a label out of order.
abbrev pub headed : Stage → Line → Headed
headed qubits l = as_qubits l (λ n. cond (leb n 32) (next (form n)) none) none
headed (form n) l = as_form l (λ f. next (events n (form_of f))) none
headed (events n f) l = as_events l (λ E. cond (leb E 48) (next (steps n f E)) none) none
headed (steps n f E) l = as_steps l (λ A. next (labelling n f E A 0 [])) none
headed (labelling n f E A q ws) l =
    as_label l (λ j xh xl zh zl. cond (eqb j q) (next (labelling n f E A (q + 1) (ws ++ (xh ∷ xl ∷ zh ∷ zl ∷ [])))) none) none
headed (running m) l = none

-- "A refused opening, tried once the labels are read, prints `open=K` and stops."
unfoldable pub tried : Opening → Next Stage
tried o = cond (eqb (open_answer o) 0) (on (running (opened o)) []) (stop (spoken (not_opened (open_answer o))))

abbrev pub settled : Stage → Next Stage
settled qubits = on qubits []
settled (form n) = on (form n) []
settled (events n f) = on (events n f) []
settled (steps n f E) = on (steps n f E) []
settled (labelling n f E A q ws) = cond (ltb q n) (on (labelling n f E A q ws) []) (tried (opening n E A f ws room))
settled (running m) = on (running m) []

-- "A line outside these rules [..] print[s] `line=N answer=bad` with that line's number and stop[s]."
abbrev pub wrong : (line : ℕ) → Next Stage
wrong line = stop (spoken (bad line))

abbrev pub led : (line : ℕ) → Headed → Next Stage
led line (next s) = settled s
led line none = wrong line

abbrev pub begun : (line : ℕ) → Line → Stage → Next Stage
begun line l s = led line (headed s l)

-- "A refused operation prints its answer alone."
abbrev pub answered_by : (line : ℕ) → Call → State → Next Stage
answered_by line c m = on (running (call c room m)) (spoken (replied line (reply c room m)))

abbrev pub operated : (line : ℕ) → Line → State → Next Stage
operated line l m = as_operation l (λ c. answered_by line (call_in c) m) (λ kind q. answered_by line (call_look (kind_of kind) q) m) (wrong line)

abbrev pub obeyed : (line : ℕ) → Line → Stage → Next Stage
obeyed line l qubits = begun line l qubits
obeyed line l (form n) = begun line l (form n)
obeyed line l (events n f) = begun line l (events n f)
obeyed line l (steps n f E) = begun line l (steps n f E)
obeyed line l (labelling n f E A q ws) = begun line l (labelling n f E A q ws)
obeyed line l (running m) = operated line l m

abbrev pub answered : (line : ℕ) → Option Line → Stage → Next Stage
answered line (Some l) s = obeyed line l s
answered line None s = wrong line

-- ---- one byte

-- how many lines are finished, the bytes of the next, and the stage
pub record Place : Type 0 where
  pub line : ℕ
  pub held : List ℕ
  pub stage : Stage

unfoldable pub start : Place
start = record { line = 0; held = []; stage = qubits }

abbrev pub fresh : (line : ℕ) → Next Stage → Next Place
fresh line (on s t) = on (record { line = line; held = []; stage = s }) t
fresh line (stop t) = stop t

-- A newline ends the line; any other byte joins it, and is one too many after 80: "Lines of at most 80 bytes, each ended by newline".
unfoldable pub heard : Place → (b : ℕ) → Next Place
heard p b =
    cond (eqb b 10) (fresh (p.line + 1) (answered (p.line + 1) (reading_of p.held) p.stage))
    (cond (ltb (length p.held) 80) (on (record { line = p.line; held = p.held ++ (b ∷ []); stage = p.stage }) []) (stop (spoken (bad (p.line + 1)))))

-- ---- the whole input

abbrev pub saying : List ℕ → Next Place → Next Place
saying t (on p u) = on p (t ++ u)
saying t (stop u) = stop (t ++ u)

abbrev pub and_then : Next Place → (Place → Next Place) → Next Place
and_then (on p t) f = saying t (f p)
and_then (stop t) f = stop t

-- what is said to some bytes, and where they leave the job
unfoldable pub ran : Place → List ℕ → Next Place
ran p [] = on p []
ran p (b ∷ input) = and_then (heard p b) (λ q. ran q input)

-- "Input that ends before the header and labels are whole does the same with the number after the last line."
abbrev pub finished : (line : ℕ) → Stage → Saying
finished line qubits = bad (line + 1)
finished line (form n) = bad (line + 1)
finished line (events n f) = bad (line + 1)
finished line (steps n f E) = bad (line + 1)
finished line (labelling n f E A q ws) = bad (line + 1)
finished line (running m) = end line (tally m)

-- a last line without its newline is bad, with its own number
unfoldable pub last_saying : Place → Saying
last_saying p = cond (eqb (length p.held) 0) (finished p.line p.stage) (bad (p.line + 1))

abbrev pub whole : Next Place → List ℕ
whole (on p t) = t ++ spoken (last_saying p)
whole (stop t) = t

unfoldable pub output : (input : List ℕ) → List ℕ
output input = whole (ran start input)
