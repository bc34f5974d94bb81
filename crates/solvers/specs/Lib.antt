-- What the promises of the solvers cite, in the order to read it.
-- Definitions only.
pub mod Method
pub mod Solvers
pub mod Verdict
pub mod Checks
pub mod Promise
pub mod Meaning
