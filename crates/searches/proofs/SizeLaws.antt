-- Laws of the sizes of the two histories that are run: 419 words for four events in the scalar form, 584 for 64 in the sliced one.
-- Assumes nothing.
use mathlib.Core.Path.{◌≡◌, refl, sym, ◌∙◌}
use mathlib.Core.List.{List}
use Prim.Native.Nat.{ℕ}
use native.Mathlib.Omega.{arith}
use lib.ListN.{length}
use Rattle.model.specs.Events.{scalar, sliced, words}
use Rattle.model.specs.Store.{list_count}
use Rattle.history.specs.Words.{list_size, history_room}
use Rattle.history.specs.Sizes.{Sized}

scalar_room : history_room scalar 1 4 1 ≡ 419
unfolding history_room list_size list_count words
scalar_room = refl

sliced_room_lem : history_room sliced 1 64 1 ≡ 584
unfolding history_room list_size list_count words
sliced_room_lem = refl

pub scalar-Sized : (h : List ℕ) → length h ≡ 419 → Sized scalar 1 4 1 h
scalar-Sized h e = record { some = omega arith; few = omega arith; planes = omega arith; narrow = tt; long = e ∙ sym scalar_room }

pub sliced-Sized : (h : List ℕ) → length h ≡ 584 → Sized sliced 1 64 1 h
sliced-Sized h e = record { some = omega arith; few = omega arith; planes = omega arith; narrow = (omega arith, refl); long = e ∙ sym sliced_room_lem }
