-- The definitions that the contracts of `lists` cite. What the lists hold, when they drop their dead and what a scan costs is `model`'s.
pub mod Lists
pub mod Scalars
pub mod Scans
