-- What the contracts of the crate cite.
-- Definitions only.
pub mod Pattern
pub mod Checks
pub mod Steps
pub mod Marks
