-- What is proved about factors that are checked, besides each function's promise.
-- Assumes nothing.
pub mod CountLaws
pub mod FallLaws
pub mod RowLaws
pub mod RightLaws
pub mod FitLaws
pub mod CheckLaws
