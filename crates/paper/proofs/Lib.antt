-- The frames are Aaronson and Gottesman's. `Theorems` states what docs/PROMISES.md lists, and everything below it is behind it.
pub mod Theorems
-- The paper's updates on all letters, computed, against matrices.
pub mod Cases
-- A step of the paper's in our form respects products and phases, and is the same step.
pub mod Conjugate
-- Every gate of 01, on the fresh frame and on any image of it; gates in a row, turns and calls; row for row; every event.
pub mod Gates
pub mod Frames
pub mod Same
pub mod Recordings
-- The product is the rowsum.
pub mod Rowsum
