-- What a look finds, as the code answers it, and what is left of its first phase on the way. What is met and what it costs is `model`'s.
-- Assumes nothing.
use Rattle.std.specs.Prelude.{◌≡◌, true, List, map, ℕ, ◌-◌, ◌%◌, ◌≤◌, ◌<◌, length, get_or, ℤ, pos, negsuc, ◌*ℤ◌, Result, Ok, IsErr}
use Rattle.model.specs.Sketch.{Label}
use Rattle.model.specs.Events.{Form, State, keep, event_at}
use Rattle.model.specs.Search as search
use Rattle.model.specs.Search.{Work, Walk, done, stopped, dry, walk, down, candidate, same_axis}
use Rattle.lists.specs.Scans.{steps}
use Rattle.lists.specs.declared.budget.Budget.{Budget}
use Rattle.pauli.specs.declared.corrupt.Corrupt.{Corrupt}
use Rattle.history.specs.declared.findings.Candidate.{Candidate}
use Rattle.history.specs.declared.findings.Candidate.TheVariants.{Match, Nothing, Out}
use Rattle.history.specs.declared.findings.Look.{Look}
use Rattle.history.specs.declared.findings.Found.{Found}
use Rattle.history.specs.declared.findings.Found.TheVariants as found
use Rattle.history.specs.declared.search.Visit.{Visit}
use Rattle.history.specs.declared.search.Visit.TheVariants.{On, Stop}
use Rattle.history.specs.Newest.{bucket_of, link_place, newest}
use Rattle.history.specs.Words.{tag_place, in_bucket, Holds}

-- how the walk of phase 1 ends
unfoldable pub candidate_of : Walk → Candidate
candidate_of (done n) = Nothing (steps n)
candidate_of (stopped id n) = Match id (steps n)
candidate_of (dry n) = Out (steps n)

-- what a look says
unfoldable pub look_of : search.Look → Look
look_of (search.found id sgn n) = record { found = found.Partner id sgn; steps = n }
look_of (search.none n) = record { found = found.Nothing; steps = n }
look_of (search.blocked n) = record { found = found.Blocked; steps = n }
look_of (search.out n) = record { found = found.OutOfSteps; steps = n }

-- the label of two words
unfoldable pub label_of : (high low : ℕ) → Label
label_of high low = record { high = high; low = low }

-- the work of phase 1 on the events below `upper`: on all events it is `model`'s `phase1`
unfoldable pub older : State → Label → (x z upper : ℕ) → List Work
older m a x z upper =
    map (λ id. record { cost = 1; stops = same_axis x z (event_at m.events id); id = id }) (keep (candidate m.events a) (down m.cleared (upper - m.cleared)))

-- the answer is the link behind event cur - 1, which has to fall
pub record Onward (h : List ℕ) (cap cur : ℕ) (left : Budget) (r : Result Visit Corrupt) : Type 0 where
  pub falls : get_or h (link_place cap (cur - 1)) 0 < cur → r ≡ Ok (On (get_or h (link_place cap (cur - 1)) 0) left)
  pub bad : cur ≤ get_or h (link_place cap (cur - 1)) 0 → IsErr r

-- the words hold m, and event i of m is in the bucket of the label (high, low)
pub record Met (f : Form) (n : ℕ) (m : State) (cap l events cleared low i : ℕ) (h : List ℕ) : Type 0 where
  pub holds : Holds f n cap l m h
  pub count : length m.events ≡ events
  pub past : m.cleared ≡ cleared
  pub picked : in_bucket cap (bucket_of cap low) m.events i ≡ true
  pub bucket : bucket_of cap low < cap

-- a turn of phase 1 at event cur - 1, with `left` steps: what is left goes on with the next older event of the bucket, or ends
abbrev pub Turn : State → (cap high low x z cur : ℕ) → Budget → Visit → Type 0
Turn m cap high low x z cur left (On next rest) =
    (next ≡ newest (in_bucket cap (bucket_of cap low) m.events) (cur - 1))
    × (walk (older m (label_of high low) x z cur) left.0 ≡ walk (older m (label_of high low) x z next) rest.0)
Turn m cap high low x z cur left (Stop c) = c ≡ candidate_of (walk (older m (label_of high low) x z cur) left.0)

-- what a turn leads on to is older
abbrev pub Falls : (cur : ℕ) → Visit → Type 0
Falls cur (On next rest) = next < cur
Falls cur (Stop c) = Unit {0}

-- the partner id with the relative sign: the sign in its words times the one given
pub record Partner (h : List ℕ) (cap id : ℕ) (g : ℤ) (r : Result Found Corrupt) : Type 0 where
  pub plus : id < cap → get_or h (tag_place cap id) 0 % 4 ≡ 1 → r ≡ Ok (found.Partner id (pos 1 *ℤ g))
  pub minus : id < cap → get_or h (tag_place cap id) 0 % 4 ≡ 3 → r ≡ Ok (found.Partner id (negsuc 0 *ℤ g))
