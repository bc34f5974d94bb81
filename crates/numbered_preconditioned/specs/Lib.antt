-- What the contracts of the crate cite.
-- Definitions only.
pub mod Calls
