-- What a call or a look gave back, as a reply; an error is told by a number. Assumes nothing.
use Rattle.std.specs.Prelude.{ℕ, Option, Some, None, Result, Ok, Err}
use Rattle.model.specs.Calls.{Reply, refused, accepted, recorded, looked}
use Rattle.history.specs.declared.findings.Look.{Look}
use Rattle.store.specs.Promises.{seen_of}

abbrev pub told_by : {E : Type 0} → (number : E → ℕ) → Result (Option ℕ) E → Reply
told_by number (Ok None) = accepted
told_by number (Ok (Some id)) = recorded id
told_by number (Err e) = refused (number e)

abbrev pub seen_by : {E : Type 0} → (number : E → ℕ) → Result Look E → Reply
seen_by number (Ok a) = looked (seen_of a.found a.steps)
seen_by number (Err e) = refused (number e)
