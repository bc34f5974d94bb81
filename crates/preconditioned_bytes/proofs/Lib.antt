-- What is proved about the preconditioned solver on bytes, besides each function's promise.
-- Assumes nothing.
pub mod CheckLaws
