-- What is proved about calls with N as a number, besides each function's promise.
-- Assumes nothing.
pub mod NumberedLaws
