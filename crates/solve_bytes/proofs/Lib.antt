-- What is proved about the solve on bytes, besides each function's promise.
-- Assumes nothing.
pub mod CheckLaws
pub mod WayLaws
