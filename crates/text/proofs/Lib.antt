-- The theorems about reading and writing, and the laws of `text` that they rest on. `Unique` and `Room` state what callers use.
-- Tests and the last arm of a long match.
pub mod Tests
-- Digits, items and whole shapes are read back as they were printed; the steps of the code are those of the definitions.
pub mod Digits
pub mod Steps
pub mod Walk
pub mod Back
-- Lines: reading is the inverse of their texts, and there is no other such reading.
pub mod Rows
pub mod LineLaws
pub mod Unique
-- Writing in parts, the sign of what a look found, and the room that a line of the output takes.
pub mod WriteLaws
pub mod SignLaws
pub mod Room
-- What is told of the library's own refusals.
pub mod Own
-- Texts of 01, computed.
pub mod Texts
