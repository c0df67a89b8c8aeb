-- The definitions that the contracts of `text` cite.
-- The language of shapes: how a shape is printed, and what is read by it.
pub mod Shape
pub mod Items
pub mod Taken
pub mod Fit
-- The lines of the input, and the reading that is the inverse of their texts.
pub mod Line
-- What writing leaves, and the lines of the output; what they tell of an answer.
pub mod Wrote
pub mod Spoken
pub mod Told
