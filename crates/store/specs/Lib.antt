-- The definitions that the contracts of `store` and of the calls cite. What a state is and what calls do to it is `model`'s.
pub mod Refusals
pub mod Stores
pub mod Promises
pub mod Checks
pub mod Held
