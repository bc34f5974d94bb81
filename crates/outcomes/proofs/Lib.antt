-- What is proved about outcomes, besides each function's promise.
-- Assumes nothing.
pub mod OutcomeLaws
pub mod SumLaws
pub mod FinishedLaws
