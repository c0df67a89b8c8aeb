-- The refusals of a store as `store`'s, their numbers, and when each comes. Assumes nothing.
use Rattle.std.specs.Prelude.{ℕ, ◌+◌, ◌≤◌, ◌<◌, List, length, Result, Ok, Err, IsTrue, IsFalse, All, Any}
use Rattle.model.specs.Events.{State}
use Rattle.model.specs.Calls.{twice}
use Rattle.store.specs.declared.refusals.Refusal as wide
use Rattle.store.specs.declared.refusals.Refusal.TheVariants as wide_is
use Rattle.store.specs.Refusals as store
use Rattle.typed.specs.declared.refusals.Refusal.{Refusal}
use Rattle.typed.specs.declared.refusals.Refusal.TheVariants.{NoSuchQubit, SameQubit, Full, NoSuchEvent}

-- the refusal as `store` has it
abbrev pub wide_of : Refusal → wide.Refusal
wide_of NoSuchQubit = wide_is.NoSuchQubit
wide_of SameQubit = wide_is.SameQubit
wide_of Full = wide_is.Full
wide_of NoSuchEvent = wide_is.NoSuchEvent

-- 01's number
abbrev pub code_of : Refusal → ℕ
code_of e = store.code_of (wide_of e)

-- "0: done"
abbrev pub number_of : {A : Type 0} → Result A Refusal → ℕ
number_of (Ok v) = 0
number_of (Err e) = code_of e

-- a refusal that can come on words that hold a state: 3, 8 and 9 cannot
abbrev pub IsOnStore : wide.Refusal → Type 0
IsOnStore e = (4 ≤ store.code_of e) × (store.code_of e ≤ 7)

-- ---- when a call that names the qubits qs is refused, in 01's order: "4; 5; 6 or 7"

-- a qubit is n or more
abbrev pub LacksQubit : List ℕ → State → Type 0
LacksQubit qs m = Any (λ q. m.given.n ≤ q) qs

-- the qubits are there, and one stands twice
abbrev pub RepeatsQubit : List ℕ → State → Type 0
RepeatsQubit qs m = All (λ q. q < m.given.n) qs × IsTrue (twice qs)

-- the qubits are there and differ, and so many more events find no room
abbrev pub LacksRoom : List ℕ → (records : ℕ) → State → Type 0
LacksRoom qs records m = All (λ q. q < m.given.n) qs × IsFalse (twice qs) × (m.given.capacity < length m.events + records)
