-- What is proved about the bytes of a solver, besides each function's promise.
-- Assumes nothing.
pub mod BackLaws
pub mod VectorLaws
