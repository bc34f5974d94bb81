-- What is proved about the places of A's entries, besides each function's promise.
-- Assumes nothing.
pub mod LookLaws
pub mod StampLaws
pub mod PlacedLaws
