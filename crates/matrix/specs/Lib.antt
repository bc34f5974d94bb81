-- What the contracts of the crate cite, in the order of document 01.
-- Definitions only.
pub mod Product
pub mod Fits
pub mod Steps
pub mod Alike
pub mod Checks
