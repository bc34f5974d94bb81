-- What is proved about vectors, besides each function's promise.
-- Assumes nothing.
pub mod FlagLaws
pub mod CheckLaws
pub mod DotLaws
pub mod VectorLaws
pub mod Examples
