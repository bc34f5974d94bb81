-- What the promises of the factor's calls cite.
-- Definitions only.
pub mod Factor
pub mod Solve
pub mod Copy
