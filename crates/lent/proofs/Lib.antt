-- What is proved about operations on lent slices, besides each function's promise.
-- Assumes nothing.
pub mod Whole
pub mod Once
pub mod PartLaws
pub mod DimLaws
