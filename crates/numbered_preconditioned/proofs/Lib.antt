-- What is proved about the solve with N as a number, besides each function's promise.
-- Assumes nothing.
pub mod NumberedLaws
