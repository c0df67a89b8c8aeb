-- What a program does with a session: an input in blocks, each handed to `run` and then, unless that said to stop, the end to `last`; and what it is handed to
-- write. A call is here what its contract says of it, and no more. Assumes nothing.
use Rattle.std.specs.Prelude.{ℕ, ◌^◌, ◌≤◌, ◌≡◌, List, [], ◌∷◌, ◌++◌, length, take, Result, Ok, Err}
use Rattle.session.specs.Desk.{Fits, Runs, Lasts}
use Rattle.session.specs.declared.stages.Talk.{Talk}
use Rattle.session.specs.declared.stages.Ran.{Ran}
use Rattle.session.specs.declared.stages.Ran.TheVariants as runs
use Rattle.session.specs.declared.run.Unfit.{Unfit}

-- the blocks one behind the other
unfoldable pub joined : List (List ℕ) → List ℕ
joined [] = []
joined (b ∷ bs) = b ++ joined bs

-- the slices that one call of `run` leaves, and what it gives back
pub record Left : Type 0 where
  pub ran : Result (Ran Talk) Unfit
  pub buf : List ℕ
  pub labels : List ℕ
  pub store : List ℕ
  pub out : List ℕ

abbrev pub Follows : Result (Ran Talk) Unfit → (out said : List ℕ) → ((t : Talk) → (rest : List ℕ) → Type 0) → Type 0
Follows (Ok (runs.On t n)) out said more = (rest : List ℕ) × (said ≡ take n out ++ rest) × more t rest
Follows (Ok (runs.Stop n)) out said more = said ≡ take n out
Follows (Err e) out said more = ⊥

-- from the talk t and the words of its slices, the blocks lead to these bytes in all
abbrev pub Serves : Talk → (buf labels store : List ℕ) → (blocks : List (List ℕ)) → (said : List ℕ) → Type 0
Serves t buf ls store [] said =
    (out : List ℕ) × (out' : List ℕ) × (n : ℕ) × Lasts t out n out' × (128 ≤ length out) × (t.line ≤ 2 ^ 62) × (t.held ≤ length buf) × (said ≡ take n out')
Serves t buf ls store (b ∷ bs) said =
    (out : List ℕ) × (left : Left) × Fits t b buf ls store out × Runs t b buf ls store out left.ran left.buf left.labels left.store left.out
    × Follows left.ran left.out said (λ t' rest. Serves t' left.buf left.labels left.store bs rest)
