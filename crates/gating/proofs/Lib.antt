-- What the proofs of `gating` rest on: gates and turns along the equations that the code has found, and each way in which a call on the frames ends.
pub mod GatingLaws
pub mod CallLaws
