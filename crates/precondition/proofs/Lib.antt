-- What is proved about the calls, besides each function's promise.
-- Assumes nothing.
pub mod CheckLaws
pub mod CheckOrder
