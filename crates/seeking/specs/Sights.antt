-- What the history saw of an axis taken with the sign +1, as what a look gives back. Assumes nothing.
use Rattle.std.specs.Prelude.{ℕ, ℤ, ◌*ℤ◌}
use Rattle.model.specs.Search as search
use Rattle.model.specs.Calls.{Reply, looked}
use Rattle.model.specs.Demands.{IsSign}
use Rattle.history.specs.declared.findings.Look.{Look}
use Rattle.history.specs.declared.findings.Found.{Found}
use Rattle.history.specs.declared.findings.Found.TheVariants.{Partner, Nothing, Blocked, OutOfSteps}

-- a partner that was found has a sign
abbrev pub SignFound : Found → Type 0
SignFound (Partner id sgn) = IsSign sgn
SignFound Nothing = Unit {0}
SignFound Blocked = Unit {0}
SignFound OutOfSteps = Unit {0}

abbrev pub SignSeen : Look → Type 0
SignSeen a = SignFound a.found

-- .. where the axis has the sign g: "the relative sign, the product of both signs"
unfoldable pub found_of : (g : ℤ) → Found → (steps : ℕ) → search.Look
found_of g (Partner id sgn) n = search.found id (sgn *ℤ g) n
found_of g Nothing n = search.none n
found_of g Blocked n = search.blocked n
found_of g OutOfSteps n = search.out n

unfoldable pub sight_of : (g : ℤ) → Look → Reply
unfolding found_of
sight_of g a = looked (found_of g a.found a.steps)
