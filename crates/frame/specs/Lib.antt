-- The definitions that the contracts of `frame` cite. What a frame and a gate are is `model`'s.
pub mod Places
pub mod Begun
pub mod Axes
