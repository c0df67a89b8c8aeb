-- What the proofs of `seeking` rest on.
-- The parts of a slice as the code lends them, and each way in which a kill, a clear, a read and a look end.
pub mod SeekLaws
