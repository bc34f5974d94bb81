-- What the promise of the call cites.
-- Definitions only.
pub mod Checks
pub mod Iluk
