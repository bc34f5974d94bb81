-- The laws of the rows, the ways out of the call, and what its promise says.
-- Assumes nothing.
pub mod RowLaws
pub mod AnswerLaws
pub mod CheckOrder
pub mod Agreement
pub mod Examples
pub mod Passes
