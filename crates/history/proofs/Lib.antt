-- Laws of the history's words, for the proofs of this crate and of all crates above it.
-- Chains of buckets; stored axes; what a body's word says; an event stored, and one dropped.
pub mod ChainLaws
pub mod AxisWords
pub mod EventLaws
pub mod StoreLaws
pub mod DropLaws
-- Words that stay while others are written.
pub mod StayLaws
-- An empty history, and a clear.
pub mod OpenLaws
-- The lists of the form.
pub mod FormLaws
pub mod ScanForm
pub mod ListPlaces
-- A record and a kill, of all words.
pub mod RecordLaws
pub mod KillLaws
-- A look: its first phase, a turn of it, and both phases.
pub mod Spending
pub mod PhaseOne
pub mod Turning
pub mod LookLaws
-- What the words hold determines every word in use.
pub mod OneHistory
-- What docs/PROMISES.md lists.
pub mod Theorems
