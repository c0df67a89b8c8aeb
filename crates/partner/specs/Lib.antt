-- The words of the theorems about all calls (proofs/Theorems.antt), and the code's calls as `model`'s.
pub mod Calls
pub mod Runs
