-- The laws of the shared definitions, and of lists and places: what proofs of loops cite.
-- Assumes nothing.
pub mod Each
pub mod Iterate
pub mod All
pub mod First
pub mod Parts
pub mod Sizes
