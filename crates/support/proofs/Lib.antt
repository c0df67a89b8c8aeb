-- Laws of all lists of a form: rooms apart, and the second phase of a look. For the proofs of this crate and of all crates above it.
pub mod FamilyLaws
pub mod PhaseLaws
-- A call for each list of a signature, in either form.
pub mod RunLaws
pub mod FormRuns
