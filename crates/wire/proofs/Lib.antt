-- What is proved about bytes, besides each function's promise.
-- Assumes nothing.
pub mod ByteLaws
pub mod WordLaws
pub mod LoopLaws
