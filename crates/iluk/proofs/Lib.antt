-- The ways out of the call, and what its promise says.
-- Assumes nothing.
pub mod AnswerLaws
pub mod CheckOrder
pub mod Demand
pub mod Agreement
pub mod Passes
