-- Laws of sliced lists, for the proofs of this crate and of all crates above it.
-- Masks of a block; blocks written, rebuilt, and with their counts; what a scan meets.
pub mod MaskLaws
pub mod BlockLaws
pub mod RebuildLaws
pub mod SliceLaws
pub mod BlockWalk
