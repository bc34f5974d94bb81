-- What is proved about the plain solver on bytes, besides each function's promise.
-- Assumes nothing.
pub mod WayLaws
pub mod CheckLaws
