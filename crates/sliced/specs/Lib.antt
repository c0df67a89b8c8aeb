-- The definitions that the contracts of `sliced` cite. What the lists hold, when they drop their dead and what a scan costs is `model`'s.
pub mod Blocks
pub mod Gathered
pub mod Steps
