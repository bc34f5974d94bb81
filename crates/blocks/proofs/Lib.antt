-- What is proved about blocks, besides each function's promise.
-- Assumes nothing.
pub mod InverseLaws
pub mod LentLaws
pub mod ListedLaws
pub mod Examples
