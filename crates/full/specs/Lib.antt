-- What the promises of the crate cite.
-- Definitions only.
pub mod Full
pub mod Steps
