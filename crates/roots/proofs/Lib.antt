-- The laws that the proofs of the functions cite, over plain numbers.
-- Assumes nothing.
pub mod CheckerLaws
