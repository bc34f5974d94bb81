-- What is proved about the decomposition on bytes, besides each function's promise.
-- Assumes nothing.
pub mod EndLaws
