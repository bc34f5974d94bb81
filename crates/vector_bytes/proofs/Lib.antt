-- What is proved about the calls on bytes, besides each function's promise.
-- Assumes nothing.
pub mod CheckLaws
pub mod NumberedLaws
pub mod WayLaws
pub mod Examples
