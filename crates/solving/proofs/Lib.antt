-- What is proved about the loops, besides each function's promise.
-- Assumes nothing.
pub mod StepLaws
pub mod FitLaws
