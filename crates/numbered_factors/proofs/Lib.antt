-- What is proved about the calls with N as a number, besides each function's promise.
-- Assumes nothing.
pub mod FactoredLaws
