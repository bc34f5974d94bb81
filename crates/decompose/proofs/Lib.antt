-- What is proved about the decomposition, besides each function's promise.
-- Assumes nothing.
pub mod Joined
pub mod TurnLaws
pub mod CheckLaws
pub mod CheckOrder
pub mod Agreement
