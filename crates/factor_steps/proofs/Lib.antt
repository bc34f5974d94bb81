-- Laws that the proofs share.
-- Assumes nothing.
pub mod TurnLaws
pub mod StartLaws
