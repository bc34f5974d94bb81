-- Laws of a step, of the history's words, and of a run in the middle of its loop.
-- Assumes nothing.
pub mod StepLaws
pub mod OverLaws
pub mod RunLaws
pub mod CheckLaws
pub mod RunEnds
