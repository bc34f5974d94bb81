-- Levels and walks: what the fill of a pattern is.
-- Definitions only.
pub mod Levels
pub mod Counting
pub mod Nesting
