-- What a caller that holds a store says of its words. A call is `model`'s; s is the list of the store's words before it, t after it. Assumes nothing.
use Rattle.std.specs.Prelude.{◌≡◌, ℕ, List, length}
use Rattle.model.specs.Events.{State}
use Rattle.model.specs.Calls.{Call, answer_to, effect}
use Rattle.store.specs.Stores.{Held, HeldTo}

-- the words hold some state that calls can leave
abbrev pub IsStore : List ℕ → Type 0
IsStore s = ∥ ((m : State) × Held m s) ∥₁

-- the fact holds of each state that the words hold
abbrev pub ForState : List ℕ → (State → Type 0) → Type 0
ForState s P = (m : State) → Held m s → P m

-- the definition gives the call this number
abbrev pub Gives : Call → List ℕ → ℕ → Type 0
Gives c s k = ForState s (λ m. answer_to c (length s) m ≡ k)

-- the state became what the call makes of it, and each word on which that does not rely is as it was
abbrev pub Does : Call → List ℕ → List ℕ → Type 0
Does c s t = ForState s (λ m. HeldTo (effect c (length s) m) s t)
