-- `Meaning` has the theorems on the promise, and `Examples` and `Exact` are worked roots and exact ones.
-- The others are the laws that they and the proofs of the functions cite.
pub mod Meaning
pub mod Examples
pub mod Exact
pub mod Numbers
pub mod Turns
pub mod Rounds
pub mod Scales
pub mod Gaps
pub mod Fractions
pub mod Unique
pub mod Computed
pub mod Read
pub mod Cases
