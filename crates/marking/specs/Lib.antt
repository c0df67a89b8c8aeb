-- The definitions that the contracts of `marking` cite.
pub mod Axes
pub mod Marks
