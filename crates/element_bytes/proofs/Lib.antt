-- What is proved about `merge` and `csrdia` on bytes, besides each function's promise.
-- Assumes nothing.
pub mod SizeLaws
pub mod RefusedLaws
