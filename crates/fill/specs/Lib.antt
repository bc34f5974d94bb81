-- The fill of a pattern, and what the steps of its loops do.
-- Definitions only.
pub mod Fill
pub mod Promise
pub mod Steps
