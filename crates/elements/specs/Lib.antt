-- What the contracts of the crate cite, in the order of document 01.
-- Definitions only.
pub mod Pairs
pub mod Assembly
pub mod Checks
pub mod Fits
