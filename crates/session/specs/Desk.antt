-- What the values and the lent words of the code stand for in the session, and the promises of its functions. m is the state that the store holds; where a
-- job has opened none yet, any. Assumes nothing.
use Rattle.std.specs.Prelude.{ℕ, ◌+◌, ◌-◌, ◌*◌, ◌^◌, ◌≤◌, ◌<◌, ◌≡◌, cond, eqb, List, length, take, drop, Option, Some, None, Result, Ok, Err, IsErr, IsOkAnd}
use Rattle.model.specs.Events.{State}
use Rattle.model.specs.Calls.{Reply, refused, accepted, recorded, says, looked, tally}
use Rattle.history.specs.Sizes.{form_of}
use Rattle.store.specs.Stores.{Held}
use Rattle.partner.specs.declared.calls.Call.{Call}
use Rattle.partner.specs.declared.calls.Call.TheVariants as calls
use Rattle.text.specs.Spoken.{Saying, bad, end, spoken}
use Rattle.text.specs.Wrote.{Wrote}
use Rattle.text.specs.declared.lines.Line.{Line}
use Rattle.session.specs.Session.{Stage, qubits, form, events, steps, labelling, running, Next, on, stop, Headed, next, none, headed, room, Place, heard, ran, output}
use Rattle.session.specs.declared.stages.Stage as code
use Rattle.session.specs.declared.stages.Stage.TheVariants as at
use Rattle.session.specs.declared.stages.Talk.{Talk}
use Rattle.session.specs.declared.stages.Ran.{Ran}
use Rattle.session.specs.declared.stages.Ran.TheVariants as runs
use Rattle.session.specs.declared.run.Unfit.{Unfit}

-- ---- stages

abbrev pub stage_of : code.Stage → (labels : List ℕ) → State → Stage
stage_of at.Qubits ls m = qubits
stage_of (at.Form n) ls m = form n
stage_of (at.Events n f) ls m = events n (form_of f)
stage_of (at.Steps n f E) ls m = steps n (form_of f) E
stage_of (at.Labels n f E A q) ls m = labelling n (form_of f) E A q (take (4 * q) ls)
stage_of (at.Running e l) ls m = running m

-- the store holds m, and the two counts are those of the end line
pub record Running (e l : ℕ) (store : List ℕ) (m : State) : Type 0 where
  pub held : Held m store
  pub few : m.given.capacity ≤ 48
  pub events : e ≡ (tally m).events
  pub live : l ≡ (tally m).live

abbrev pub Means : code.Stage → (store : List ℕ) → State → Type 0
Means at.Qubits store m = Unit {0}
Means (at.Form n) store m = Unit {0}
Means (at.Events n f) store m = Unit {0}
Means (at.Steps n f E) store m = Unit {0}
Means (at.Labels n f E A q) store m = Unit {0}
Means (at.Running e l) store m = Running e l store m

-- the numbers of a stage right behind a header or label line, before the opening is tried: q may be n
abbrev pub Near : code.Stage → Type 0
Near at.Qubits = Unit {0}
Near (at.Form n) = n ≤ 32
Near (at.Events n f) = n ≤ 32
Near (at.Steps n f E) = (n ≤ 32) × (E ≤ 48)
Near (at.Labels n f E A q) = (n ≤ 32) × (E ≤ 48) × (q ≤ n)
Near (at.Running e l) = ⊥

-- the same between two lines: the opening was tried where q was n
abbrev pub Within : code.Stage → Type 0
Within at.Qubits = Unit {0}
Within (at.Form n) = n ≤ 32
Within (at.Events n f) = n ≤ 32
Within (at.Steps n f E) = (n ≤ 32) × (E ≤ 48)
Within (at.Labels n f E A q) = (n ≤ 32) × (E ≤ 48) × (q < n)
Within (at.Running e l) = Unit {0}

-- ---- a header or label line

abbrev pub head_of : Option code.Stage → (labels : List ℕ) → State → Headed
head_of (Some s) ls m = next (stage_of s ls m)
head_of None ls m = none

abbrev pub NearTook : Option code.Stage → Type 0
NearTook (Some s) = Near s
NearTook None = Unit {0}

-- from the stage st and the labels ls, the line l leads to r and the labels ls'
pub record Takes (st : code.Stage) (ls : List ℕ) (l : Line) (r : Option code.Stage) (ls' : List ℕ) : Type 0 where
  pub near : NearTook r
  pub is : (m : State) → headed (stage_of st ls m) l ≡ head_of r ls' m

-- ---- any line

abbrev pub stage_next : Ran code.Stage → (labels out : List ℕ) → State → Next Stage
stage_next (runs.On s n) ls out m = on (stage_of s ls m) (take n out)
stage_next (runs.Stop n) ls out m = stop (take n out)

-- the n bytes that are said are there
pub record Inside (n : ℕ) (out : List ℕ) : Type 0 where
  pub within : n ≤ length out
  pub counts : n ≡ length (take n out)

-- n bytes at the start of out are new, and the others as they were
pub record Fresh (n : ℕ) (out out' : List ℕ) : Type 0 where
  pub inside : Inside n out'
  pub rest : drop n out' ≡ drop n out

-- the same of one line of the output
pub record Said (n : ℕ) (out out' : List ℕ) : Type 0 where
  pub fresh : Fresh n out out'
  pub few : n ≤ 128

abbrev pub Ends : Ran code.Stage → (out out' : List ℕ) → Type 0
Ends (runs.On s n) out out' = Within s × Said n out out'
Ends (runs.Stop n) out out' = Said n out out'

abbrev pub MeansTold : Ran code.Stage → (store : List ℕ) → State → Type 0
MeansTold (runs.On s n) store m = Means s store m
MeansTold (runs.Stop n) store m = Unit {0}

-- from the stage st, the labels ls and the words of the store, `f` of the session happens: r, and what stands in the slices then
pub record Tells (f : Stage → Next Stage) (st : code.Stage) (ls store out : List ℕ) (r : Ran code.Stage) (ls' store' out' : List ℕ) : Type 0 where
  pub ends : Ends r out out'
  pub is : (m : State) → Means st store m → (m' : State) × MeansTold r store' m' × (f (stage_of st ls m) ≡ stage_next r ls' out' m')

-- ---- an operation

-- the events that a call records, and those that it kills, if it is not refused
abbrev pub records_of : Call → ℕ
records_of (calls.Gate g) = 0
records_of (calls.Turn kind k q) = 0
records_of (calls.Record kind q tag) = 1
records_of (calls.Measure q) = 1
records_of (calls.Reset q) = 2
records_of (calls.Ccx a b t) = 7
records_of (calls.Ccz a b t) = 7
records_of (calls.Kill id) = 0
records_of calls.Clear = 0

abbrev pub kills_of : Call → ℕ
kills_of (calls.Gate g) = 0
kills_of (calls.Turn kind k q) = 0
kills_of (calls.Record kind q tag) = 0
kills_of (calls.Measure q) = 0
kills_of (calls.Reset q) = 0
kills_of (calls.Ccx a b t) = 0
kills_of (calls.Ccz a b t) = 0
kills_of (calls.Kill id) = 1
kills_of calls.Clear = 0

-- the counts of the end line after a call and its reply
abbrev pub counted : Call → Reply → (e l : ℕ) → code.Stage
counted c (refused k) e l = at.Running e l
counted c accepted e l = at.Running e (l - kills_of c)
counted c (recorded id) e l = at.Running (e + records_of c) (l + records_of c)
counted c (says v) e l = at.Running e l
counted c (looked a) e l = at.Running e l

pub record Counts (c : Call) (r : Reply) (e l : ℕ) (s : code.Stage) : Type 0 where
  pub is : e ≤ 48 → l ≤ e → s ≡ counted c r e l
  pub running : (e' : ℕ) × (l' : ℕ) × (s ≡ at.Running e' l')

-- from a store that holds m, `f` of the session happens
pub record Does (f : State → Next Stage) (e l : ℕ) (store out : List ℕ) (r : Ran code.Stage) (store' out' : List ℕ) : Type 0 where
  pub ends : Ends r out out'
  pub is : (m : State) → Running e l store m → (m' : State) × MeansTold r store' m' × ((ls : List ℕ) → f m ≡ stage_next r ls out' m')

-- ---- bytes

abbrev pub place_of : Talk → (buf labels : List ℕ) → State → Place
place_of t buf ls m = record { line = t.line; held = take t.held buf; stage = stage_of t.stage ls m }

-- the slices have the sizes of the program, and the numbers of the talk are in their ranges
pub record Sized (t : Talk) (buf labels store : List ℕ) : Type 0 where
  pub line_room : length buf ≡ 80
  pub label_room : length labels ≡ 128
  pub store_room : length store ≡ room
  pub held : t.held ≤ 80
  pub within : Within t.stage

abbrev pub place_next : Ran Talk → (buf labels out : List ℕ) → State → Next Place
place_next (runs.On t n) buf ls out m = on (place_of t buf ls m) (take n out)
place_next (runs.Stop n) buf ls out m = stop (take n out)

abbrev pub EndsHeard : Ran Talk → (buf labels store out out' : List ℕ) → (line : ℕ) → Type 0
EndsHeard (runs.On t n) buf ls store out out' line = Sized t buf ls store × (t.line ≤ line + 1) × Said n out out'
EndsHeard (runs.Stop n) buf ls store out out' line = Said n out out'

abbrev pub MeansRan : Ran Talk → (store : List ℕ) → State → Type 0
MeansRan (runs.On t n) store m = Means t.stage store m
MeansRan (runs.Stop n) store m = Unit {0}

-- one byte
pub record Hears (t : Talk) (buf ls store out : List ℕ) (b : ℕ) (r : Ran Talk) (buf' ls' store' out' : List ℕ) : Type 0 where
  pub ends : EndsHeard r buf' ls' store' out out' t.line
  pub is : (m : State) → Means t.stage store m → (m' : State) × MeansRan r store' m' × (heard (place_of t buf ls m) b ≡ place_next r buf' ls' out' m')

-- what `run` asks: those sizes, 128 bytes of out for each byte of the input, and a number of lines that is far from 2^64
pub record Fits (t : Talk) (input buf labels store out : List ℕ) : Type 0 where
  pub sized : Sized t buf labels store
  pub room : 128 * length input ≤ length out
  pub lines : t.line ≤ 2 ^ 62

abbrev pub EndsRan : Ran Talk → (buf labels store out out' : List ℕ) → (lines : ℕ) → Type 0
EndsRan (runs.On t n) buf ls store out out' lines = Sized t buf ls store × (t.line ≤ lines) × Fresh n out out'
EndsRan (runs.Stop n) buf ls store out out' lines = Fresh n out out'

-- at most 128 bytes are said to each byte of the input
abbrev pub RoomRan : Ran Talk → (bytes : ℕ) → Type 0
RoomRan (runs.On t n) bytes = n ≤ 128 * bytes
RoomRan (runs.Stop n) bytes = n ≤ 128 * bytes

-- some bytes, on slices that fit
pub record Plays (t : Talk) (input buf ls store out : List ℕ) (r : Ran Talk) (buf' ls' store' out' : List ℕ) : Type 0 where
  pub ends : EndsRan r buf' ls' store' out out' (t.line + length input)
  pub few : RoomRan r (length input)
  pub is : (m : State) → Means t.stage store m → (m' : State) × MeansRan r store' m' × (ran (place_of t buf ls m) input ≡ place_next r buf' ls' out' m')

abbrev pub InsideRan : Result (Ran Talk) Unfit → (out : List ℕ) → Type 0
InsideRan (Ok (runs.On t n)) out = Inside n out
InsideRan (Ok (runs.Stop n)) out = Inside n out
InsideRan (Err e) out = Unit {0}

-- The promise of `run`, on any slices: on those that do not fit nothing is done. `inside` follows, as it does in `Lasts`.
pub record Runs (t : Talk) (input buf ls store out : List ℕ) (r : Result (Ran Talk) Unfit) (buf' ls' store' out' : List ℕ) : Type 0 where
  pub inside : InsideRan r out'
  pub fit : Fits t input buf ls store out → IsOkAnd r (λ x. Plays t input buf ls store out x buf' ls' store' out')
  pub unfit : (Fits t input buf ls store out → ⊥) → IsErr r × (buf' ≡ buf) × (ls' ≡ ls) × (store' ≡ store) × (out' ≡ out)

-- what the end of the input is told, from the talk alone (`last_is`: it is `last_saying` of the session)
abbrev pub closing : (line : ℕ) → code.Stage → Saying
closing line at.Qubits = bad (line + 1)
closing line (at.Form n) = bad (line + 1)
closing line (at.Events n f) = bad (line + 1)
closing line (at.Steps n f E) = bad (line + 1)
closing line (at.Labels n f E A q) = bad (line + 1)
closing line (at.Running e l) = end line (record { events = e; live = l })

unfoldable pub last_of : Talk → Saying
last_of t = cond (eqb t.held 0) (closing t.line t.stage) (bad (t.line + 1))

-- The promise of `last`, on any talk. Past 2^62 lines, where `run` is `Unfit`, nothing is written. `inside` follows, and is what a caller needs of `&out[..n]`.
pub record Lasts (t : Talk) (out : List ℕ) (n : ℕ) (out' : List ℕ) : Type 0 where
  pub inside : Inside n out'
  pub near : t.line ≤ 2 ^ 62 → Wrote out 0 (spoken (last_of t)) out' n
  pub far : 2 ^ 62 < t.line → (n ≡ 0) × (out' ≡ out)

abbrev pub Begins : Talk → Type 0
Begins t = (t.line ≡ 0) × (t.held ≡ 0) × (t.stage ≡ at.Qubits)

-- the promise of `serve`: a whole input, in out of 128 bytes for each byte of it and 128 more
pub record ServesAll (input out : List ℕ) (r : Result ℕ Unfit) (out' : List ℕ) : Type 0 where
  pub fit : 128 * (length input + 1) ≤ length out → (n : ℕ) × (r ≡ Ok n) × Fresh n out out' × (take n out' ≡ output input)
  pub unfit : length out < 128 * (length input + 1) → IsErr r × (out' ≡ out)
