-- What the contracts of the crate cite, in the order of document 01.
-- Definitions only.
pub mod Block
pub mod Inverse
pub mod Lent
pub mod Size
