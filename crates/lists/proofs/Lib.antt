-- Laws of lists in the words of a slice, for the proofs of this crate and of all crates above it.
-- Places in a rising list.
pub mod PlaceLaws
-- Scalar lists: what a push and a death write; what a scan meets.
pub mod ScalarLaws
pub mod ScanLaws
