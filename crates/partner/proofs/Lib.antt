-- The theorems about all calls (docs/PROMISES.md), and the laws that they rest on.
pub mod Lending
pub mod OneStore
pub mod Theorems
