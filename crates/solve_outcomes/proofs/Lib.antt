-- What is proved about the ends of a solve, besides each function's promise.
-- Assumes nothing.
pub mod EndLaws
pub mod FinishedLaws
