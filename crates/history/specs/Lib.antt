-- The definitions that the contracts of `history` cite. What events, lists and a look are is `model`'s.
pub mod Newest
pub mod Words
pub mod Phases
pub mod Sizes
pub mod Readings
pub mod Recordings
pub mod Kills
