-- What is proved about the matrix calls, besides each function's promise.
-- Assumes nothing.
pub mod ScaleLaws
pub mod ProductLaws
pub mod OwnRound
pub mod AlikeLaws
pub mod BareLaws
pub mod CheckLaws
pub mod FitLaws
pub mod PatternEnds
pub mod CheckOrder
pub mod Examples
