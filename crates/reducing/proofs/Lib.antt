-- What is proved about the reduction of a row, besides each function's promise.
-- Assumes nothing.
pub mod Joined
pub mod FitLaws
