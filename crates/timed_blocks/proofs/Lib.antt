-- What is proved about the benchmark's calls, besides each function's promise.
-- Assumes nothing.
pub mod TimedLaws
