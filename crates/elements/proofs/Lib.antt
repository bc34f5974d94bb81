-- The laws of the crate's definitions, and what is proved of them.
-- Assumes nothing.
pub mod EntryLaws
pub mod PlaceLaws
pub mod AddLaws
pub mod FitLaws
pub mod FindLaws
pub mod CheckLaws
pub mod EndsLaws
pub mod CheckOrder
pub mod Meaning
pub mod Examples
