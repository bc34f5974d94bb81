-- What is proved about the matrix calls on bytes, besides each function's promise.
-- Assumes nothing.
pub mod CheckLaws
pub mod EndedLaws
pub mod WayLaws
