-- Laws behind the proofs of `searches`.
pub mod SizeLaws
