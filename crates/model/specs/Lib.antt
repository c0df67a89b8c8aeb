-- Everything that a reader has to believe: the definitions of document 01 ("01"), which compute. The theorems about them stand in proofs/,
-- and no definition rests on one.
-- The rules, each file over those before it.
pub mod Pauli
pub mod Frame
pub mod Sketch
pub mod Events
pub mod Search
pub mod Store
pub mod Calls
-- The words of the theorems: what the mission's demands say of a state and of an answer. proofs/Theorems.antt states them.
pub mod Demands
