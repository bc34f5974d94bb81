-- Laws that the proofs share.
-- Assumes nothing.
pub mod TurnLaws
pub mod StartLaws
pub mod CheckLaws
pub mod EndLaws
pub mod Answered
