-- What is proved about `blkcsr` on bytes, besides each function's promise.
-- Assumes nothing.
pub mod SizeLaws
pub mod WayLaws
pub mod RefusedLaws
