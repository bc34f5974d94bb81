-- What the contracts of the solvers on bytes cite.
-- Definitions only.
pub mod Lent
pub mod Checks
pub mod Rooms
