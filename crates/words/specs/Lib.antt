-- What the contracts of the crate cite, beside the logic's own IEEE 754.
-- Definitions only.
pub mod Text
