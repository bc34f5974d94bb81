-- What is proved about the rooms of the preconditioned solver, besides each function's promise.
-- Assumes nothing.
pub mod WayLaws
