-- The definitions that the contracts of `seeking` cite.
pub mod Sights
