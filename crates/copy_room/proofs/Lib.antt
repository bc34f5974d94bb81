-- What is proved about the copy on bytes, besides each function's promise.
-- Assumes nothing.
pub mod WayLaws
