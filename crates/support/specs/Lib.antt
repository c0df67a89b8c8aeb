-- The definitions that the contracts of `support` cite.
pub mod Families
pub mod Runs
