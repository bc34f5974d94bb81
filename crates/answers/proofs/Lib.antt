-- What is proved about answers and checks, besides each function's promise.
-- Assumes nothing.
pub mod SameAnswer
pub mod CheckOrder
pub mod EndLaws
