-- The laws of the crate's definitions, and what is proved of them.
-- Assumes nothing.
pub mod TestLaws
pub mod SizeLaws
pub mod OffsetLaws
pub mod MarkLaws
pub mod OnceLaws
pub mod RowLaws
pub mod SplitLaws
pub mod RiseLaws
pub mod ClimbLaws
pub mod FastLaws
pub mod FactorLaws
pub mod CheckOrder
pub mod Examples
pub mod Use
