-- Laws that the proofs share, and that the answer is the one of the verdict theorem.
-- Assumes nothing.
pub mod Answered
pub mod CheckLaws
pub mod EndLaws
