-- What the contracts of the entry points cite.
-- Definitions only.
pub mod Calls
pub mod Sums
