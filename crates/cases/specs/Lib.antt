-- What the checks of `cases` look at.
pub mod Seen
