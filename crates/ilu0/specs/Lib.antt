-- What the promises of the crate cite.
-- Definitions only.
pub mod Ilu0
pub mod Steps
