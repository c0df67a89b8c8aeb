-- What callers of `run` go by: from slices of the program's sizes it never answers `Unfit`, and leaves such slices. Assumes nothing.
use Prim.Native.Nat.{ℕ, ◌+◌, ◌*◌, ◌^◌, ◌≤◌}
use mathlib.Core.Path.{◌≡◌, sym, subst}
use mathlib.Core.List.{List}
use native.Mathlib.Omega.{arith}
use lib.ListN.{length}
use Rattle.session.specs.Desk.{Within, Sized, Fits, Runs, Begins}
use Rattle.session.specs.declared.stages.Stage as code
use Rattle.session.specs.declared.stages.Talk.{Talk}
use Rattle.std.specs.Prelude.{Ok, Err}
use Rattle.session.specs.declared.stages.Ran.TheVariants as runs
use Rattle.session.specs.declared.run.Unfit.{Unfit}

pub start_Sized : (t : Talk) (buf ls store : List ℕ) → Begins t → length buf ≡ 80 → length ls ≡ 128 → length store ≡ 4401 → Sized t buf ls store
start_Sized t buf ls store b x y z =
    record { line_room = x; label_room = y; store_room = z; held = omega (arith, b.1); within = subst (λ (s : code.Stage). Within s) (sym b.2) tt }

-- `turns` blocks of 512 bytes are still to come, this one among them
pub Fits-block : (t : Talk) (input buf ls store out : List ℕ) (turns : ℕ) → Sized t buf ls store → length out ≡ 65536 → t.line + turns * 512 ≤ 2 ^ 52
    → length input ≤ 512 → Fits t input buf ls store out
Fits-block t input buf ls store out turns s o l n = record { sized = s; room = omega arith; lines = omega arith }

module _ (t : Talk) (input buf ls store out buf' ls' store' out' : List ℕ) (fits : Fits t input buf ls store out) where
  pub never_unfit : (e : Unfit) → Runs t input buf ls store out (Err e) buf' ls' store' out' → ⊥
  never_unfit e h = h.fit fits

  pub run_on : (u : Talk) (n : ℕ) → Runs t input buf ls store out (Ok (runs.On u n)) buf' ls' store' out' → Sized u buf' ls' store' × (u.line ≤ t.line + length input)
  run_on u n h = let p = (h.fit fits).ends in (p.0, p.1)
