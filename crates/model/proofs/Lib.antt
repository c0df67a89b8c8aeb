-- The theorems about the definitions of specs/. `Theorems` states those that docs/PROMISES.md lists, and everything below it is behind them.
pub mod Theorems
-- 1: computed.
pub mod Cases
-- 2, 3: counts and exclusive or; their parity, and anticommutation; products and signs; every gate and turn keeps the frame, and its
-- rows within the qubits.
pub mod Counts
pub mod Digits
pub mod Parity
pub mod Products
pub mod Invariant
pub mod Within
-- 4: the sketch's labels are those of the exact rows.
pub mod Labels
-- The signature by qubits.
pub mod Signature
-- 5: what the lists keep, over facts on lists.
pub mod Members
pub mod Lists
-- 6: axes that anticommute share a bit; what a look says; every state that our calls can leave is good, and what that is in the words of
-- `Demands`; each answer exactly when it is true.
pub mod Share
pub mod Looks
pub mod Good
pub mod Kept
pub mod Stay
pub mod Exact
-- 7: what a look costs at most.
pub mod Enough
-- 8: two openings.
pub mod Twins
-- 9: sizes and the store's need.
pub mod Room
