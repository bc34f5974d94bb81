-- What the contracts of the crate cite.
-- Definitions only.
pub mod Bytes
pub mod Words
