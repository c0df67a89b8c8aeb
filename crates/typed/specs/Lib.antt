-- What the contracts of `typed` cite.
pub mod Refusals
pub mod Turns
pub mod Openings
pub mod Looks
