-- What the contracts of the crate cite.
-- Definitions only.
pub mod Numbers
pub mod Checks
pub mod Limits
pub mod Promise
