-- The lines of the output, after 01, "The line program". Assumes nothing.
use Rattle.std.specs.Prelude.{ℕ, List, [], ◌∷◌, ℤ, pos, negsuc}
use Prim.Native.String.{String}
use Rattle.model.specs.Search.{Look, found, none, blocked, out}
use Rattle.model.specs.Calls.{Reply, refused, accepted, recorded, says, looked, Tally}
use Rattle.text.specs.Shape.{Filled, fill, printed}

-- What the program says: what a call on an input line gave back; that a line is bad; the number of a refused opening; and the end, after so many lines
pub data Saying : Type 0 where
  replied : (line : ℕ) → Reply → Saying
  bad : (line : ℕ) → Saying
  not_opened : (number : ℕ) → Saying
  end : (line : ℕ) → Tally → Saying

-- "sign prints as 1 or -1": a look has no other (`look_signed` of `model`)
abbrev pub found_shape : ℤ → String
found_shape (pos n) = "line=# look=found id=# sign=1 steps=#\n"
found_shape (negsuc n) = "line=# look=found id=# sign=-1 steps=#\n"

-- "'out' is the fourth look word; it and 'none' and 'blocked' print steps only."
abbrev pub look_text : (line : ℕ) → Look → Filled
look_text l (found id sgn n) = fill (found_shape sgn) (l ∷ id ∷ n ∷ [])
look_text l (none n) = fill "line=# look=none steps=#\n" (l ∷ n ∷ [])
look_text l (blocked n) = fill "line=# look=blocked steps=#\n" (l ∷ n ∷ [])
look_text l (out n) = fill "line=# look=out steps=#\n" (l ∷ n ∷ [])

-- "A refused operation prints its answer alone." "id the event recorded (the first of several)". No line of the program is a read: what one says would
-- print as done.
abbrev pub reply_text : (line : ℕ) → Reply → Filled
reply_text l (refused k) = fill "line=# answer=#\n" (l ∷ k ∷ [])
reply_text l accepted = fill "line=# answer=0\n" (l ∷ [])
reply_text l (recorded id) = fill "line=# answer=0 id=#\n" (l ∷ id ∷ [])
reply_text l (says r) = fill "line=# answer=0\n" (l ∷ [])
reply_text l (looked a) = look_text l a

abbrev pub saying_text : Saying → Filled
saying_text (replied l r) = reply_text l r
saying_text (bad l) = fill "line=# answer=bad\n" (l ∷ [])
saying_text (not_opened k) = fill "open=#\n" (k ∷ [])
saying_text (end l t) = fill "end=# events=# live=#\n" (l ∷ t.events ∷ t.live ∷ [])

-- the line, with its newline
unfoldable pub spoken : Saying → List ℕ
spoken s = printed (saying_text s)
