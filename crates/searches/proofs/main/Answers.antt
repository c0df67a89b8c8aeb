-- `searches::main` is safe: each call keeps the length of the words it is lent. Assumes nothing.
use mathlib.Core.Path.{refl, ◌∙◌}
use native.Mathlib.Omega.{arith}
use Rattle.history.specs.Sizes.{form_of}
use Rattle.searches.proofs.SizeLaws.{scalar-Sized, sliced-Sized}
use Rattle.searches.proofs.main.Goals as goal

pub searched-requires : goal.searched-requires
unfolding form_of
searched-requires c = (scalar-Sized _ refl, refl)

pub searched-requires-2 : goal.searched-requires-2
unfolding form_of
searched-requires-2 c = (scalar-Sized _ c.searched.ensures, refl)

pub searched-requires-3 : goal.searched-requires-3
unfolding form_of
searched-requires-3 c = (sliced-Sized _ refl, refl)

pub searched-requires-4 : goal.searched-requires-4
unfolding form_of
searched-requires-4 c = (sliced-Sized _ c.searched-3.ensures, refl)

pub searched-requires-5 : goal.searched-requires-5
unfolding form_of
searched-requires-5 c = (sliced-Sized _ (c.searched-4.ensures ∙ c.searched-3.ensures), refl)

pub filled-kept-requires : goal.filled-kept-requires
unfolding form_of
filled-kept-requires c = (scalar-Sized _ (c.searched-2.ensures ∙ c.searched.ensures), refl)

pub killed-requires : goal.killed-requires
unfolding form_of
killed-requires c = let e = c.filled-kept.ensures ∙ c.searched-2.ensures ∙ c.searched.ensures in (scalar-Sized _ e, omega (arith, e))

pub killed-requires-2 : goal.killed-requires-2
unfolding form_of
killed-requires-2 c = let e = c.killed.ensures ∙ c.filled-kept.ensures ∙ c.searched-2.ensures ∙ c.searched.ensures in (scalar-Sized _ e, omega (arith, e))
