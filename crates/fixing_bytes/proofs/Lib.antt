-- What is proved about the calls that write a matrix, on bytes, besides each function's promise.
-- Assumes nothing.
pub mod WriteLaws
