-- What is proved about fixing, besides each function's promise.
-- Assumes nothing.
pub mod FlagLaws
pub mod BlockLaws
pub mod FixingLaws
pub mod FitLaws
pub mod EndedLaws
pub mod FixingMeaning
pub mod Examples
