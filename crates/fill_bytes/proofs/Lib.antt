-- What is proved about the calls on bytes, besides each function's promise.
-- Assumes nothing.
pub mod EndLaws
pub mod FullLaws
pub mod Ilu0Laws
pub mod IlukLaws
