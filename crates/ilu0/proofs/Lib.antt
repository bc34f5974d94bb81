-- The laws of the loops, the ways out of the call, and what its promise says.
-- Assumes nothing.
pub mod RowLaws
pub mod WholeLaws
pub mod AnswerLaws
pub mod CheckOrder
pub mod Agreement
pub mod Examples
pub mod AtZero
pub mod AsIluk
pub mod Passes
