-- Laws of a store's words and of a call's answer, for the proofs of this crate and of all crates above it.
-- A part that was lent and came back; the sizes; the parts of a store; the numbers of the answers; and each way in which a call ends.
pub mod Splice
pub mod SizeLaws
pub mod QubitLaws
pub mod StoreLaws
pub mod AnswerLaws
pub mod MeetLaws
pub mod LentLaws
pub mod OpenLaws
