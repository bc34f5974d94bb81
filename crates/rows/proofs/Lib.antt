-- What is proved about lookups and sorting, besides each function's promise.
-- Assumes nothing.
pub mod RowLaws
pub mod StepLaws
pub mod SinkLaws
pub mod CountLaws
pub mod OrderLaws
pub mod SortMeaning
pub mod LookupLaws
pub mod HalfLaws
pub mod Examples
