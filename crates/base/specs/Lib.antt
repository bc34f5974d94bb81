-- The shapes of loops, as definitions that more than one crate cites.
-- Definitions only.
pub mod Each
pub mod Iterate
pub mod All
pub mod First
