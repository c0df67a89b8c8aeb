-- What a look and a read say, as `model` has it. Assumes nothing.
use Rattle.std.specs.Prelude.{◌≡◌, ◌≢◌, ℕ, ◌≤◌}
use Rattle.model.specs.Events.{State}
use Rattle.model.specs.Frame.{Kind, axis, paulis}
use Rattle.model.specs.Search as model
use Rattle.model.specs.Calls.{Reading}
use Rattle.model.specs.Demands.{Exactly, living}
use Rattle.history.specs.declared.events.Rotation.{Rotation}
use Rattle.history.specs.declared.findings.Look as history
use Rattle.history.specs.declared.findings.Found as finding
use Rattle.history.specs.declared.findings.Found.TheVariants as finding_is
use Rattle.typed.specs.declared.looks.Found.{Found}
use Rattle.typed.specs.declared.looks.Found.TheVariants.{Partner, Nothing, Blocked, OutOfSteps}
use Rattle.typed.specs.declared.looks.Look.{Look}

-- the same as `history` has it, with a number for an event
abbrev pub finding_of : Found → finding.Found
finding_of (Partner id sign) = finding_is.Partner id.0 sign
finding_of Nothing = finding_is.Nothing
finding_of Blocked = finding_is.Blocked
finding_of OutOfSteps = finding_is.OutOfSteps

abbrev pub plain_of : Look → history.Look
plain_of a = record { found = finding_of a.found; steps = a.steps }

abbrev pub found_of : Found → (steps : ℕ) → model.Look
found_of (Partner id sign) steps = model.found id.0 sign steps
found_of Nothing steps = model.none steps
found_of Blocked steps = model.blocked steps
found_of OutOfSteps steps = model.out steps

abbrev pub look_of : Look → model.Look
look_of a = found_of a.found a.steps

abbrev pub reading_of : Rotation → Reading
reading_of r = record { tag = r.tag; sgn = r.sign; live = r.live }

-- Unless the steps ran out, a partner is named exactly when it is the newest live rotation of the axis since the last clear and no later live event is in
-- the way, with the product of both signs; and likewise that there is none, and that one is in the way.
abbrev pub FindsExactly : Kind → ℕ → Look → State → Type 0
FindsExactly kind q a m = a.found ≢ OutOfSteps → Exactly m (axis paulis kind q m.frame) (look_of a)

-- "with at most 12,000 live events and 1,048,576 steps no search runs out"
pub record HasEnough (m : State) : Type 0 where
  pub few : living m ≤ 12000
  pub steps : m.given.allowance ≡ 1048576
