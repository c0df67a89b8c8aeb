-- The paper's tableau, written from the paper alone (`Tableau`), and how a row of ours is read as one of theirs and a gate of 01 as a circuit of
-- theirs (`Bridge`).
pub mod Tableau
pub mod Bridge
