-- What the proofs of `marking` rest on.
pub mod RowMarks
pub mod StateMarks
mod AxisMarks
mod PutMarks
mod MarkLaws
mod EnrollLaws
