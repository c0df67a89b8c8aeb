-- The laws by which the host's functions meet their contracts, and that the contracts determine everything (Theorems).
mod Answering
mod Naming
mod Needing
mod Written
pub mod Theorems
