-- Laws of rows and labels in the words of a frame, for the proofs of this crate and of all crates above it.
-- Where rows lie, one or two of them changed; the gates by such moves; fresh frames; and that what is held determines every word.
pub mod RowedLaws
pub mod GateLaws
pub mod FreshLaws
pub mod AxisLaws
pub mod OneFrame
