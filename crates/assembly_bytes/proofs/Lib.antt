-- What is proved about assembly from bytes to bytes, besides each function's promise.
-- Assumes nothing.
pub mod WayLaws
