-- What is proved about the block operations on bytes, besides each function's promise.
-- Assumes nothing.
pub mod OperationLaws
