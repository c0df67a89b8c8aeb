-- Of the library's own refusals what is told is what `store` says of a call and of a look. Assumes nothing.
use mathlib.Core.Path.{◌≡◌, refl}
use Rattle.std.specs.Prelude.{ℕ, Option, Some, None, Result, Ok, Err}
use Rattle.history.specs.declared.findings.Look.{Look}
use Rattle.store.specs.declared.refusals.Refusal.{Refusal}
use Rattle.store.specs.Refusals.{code_of}
use Rattle.store.specs.Promises.{told, told_look}
use Rattle.text.specs.Told.{told_by, seen_by}

pub told_own : (a : Result (Option ℕ) Refusal) → told_by code_of a ≡ told a
told_own (Ok None) = refl
told_own (Ok (Some id)) = refl
told_own (Err e) = refl

pub seen_own : (s : Result Look Refusal) → seen_by code_of s ≡ told_look s
unfolding told_look
seen_own (Ok a) = refl
seen_own (Err e) = refl
