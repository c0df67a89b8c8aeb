-- The definitions that the contracts of `pauli` cite. What a Pauli product, its sign and anticommutation are is `model`'s.
pub mod Digits
pub mod Fill
pub mod Sets
pub mod Rows
