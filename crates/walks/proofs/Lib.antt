-- That a pair has a level exactly if a nested walk leads along it, and that the computed level is the level.
-- Assumes nothing.
pub mod CountLaws
pub mod CoverLaws
pub mod Highest
pub mod Routes
pub mod Claim
pub mod Computed
pub mod LevelLaws
pub mod Examples
