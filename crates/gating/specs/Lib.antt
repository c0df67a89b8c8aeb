-- The definitions that the contracts of `gating` cite.
pub mod Gates
