-- What the line program says on an input (Session, with Kinds; the same by lines in ByLines), what the values and words of the code stand for there
-- (Desk), and an input in blocks (Blocks).
pub mod Kinds
pub mod Session
pub mod ByLines
pub mod Desk
pub mod Blocks
