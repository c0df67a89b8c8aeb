-- Laws of words, digits, parts and rows, for the proofs of this crate and of all crates above it.
-- Digits, walks over set digits, and words with one digit changed.
pub mod Digits
pub mod Walk
pub mod PutWord
pub mod FillLaws
-- Numbers that are none of those that a match names.
pub mod Nots
-- Words as sets, rows as words, signs, signatures, and two rows of one slice.
pub mod Words
pub mod Signs
pub mod RowLaws
pub mod Signatures
