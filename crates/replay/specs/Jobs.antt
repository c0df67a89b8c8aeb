-- When the slices fit a job, so that `run` never calls them unfit. Assumes nothing.
use Rattle.std.specs.Prelude.{ℕ, ◌+◌, ◌*◌, ◌^◌, ◌≤◌, List, length}
use Rattle.session.specs.Desk.{Within}
use Rattle.replay.specs.declared.Job.{Job}
use Rattle.replay.specs.declared.Job.TheVariants as jobs

-- the lines that a job had, where it goes on
abbrev pub lines_of : Job → ℕ
lines_of jobs.New = 0
lines_of (jobs.On t) = t.line
lines_of jobs.Over = 0

-- `held` and `within` of `Sized`, where the job goes on: the numbers of its talk are in their ranges
abbrev pub Going : Job → Type 0
Going jobs.New = Unit {0}
Going (jobs.On t) = (t.held ≤ 80) × Within t.stage
Going jobs.Over = Unit {0}

-- a job can take these bytes: `Desk` has 65,536 bytes for what is said
pub record Open (j : Job) (bytes : List ℕ) : Type 0 where
  pub going : Going j
  pub said : 128 * length bytes ≤ 65536
  pub lines : lines_of j + length bytes ≤ 2 ^ 62

-- the bytes lead from j to r: at most one line more for each of them
pub record Leads (j : Job) (bytes : List ℕ) (r : Job) : Type 0 where
  pub going : Going r
  pub lines : lines_of r ≤ lines_of j + length bytes
