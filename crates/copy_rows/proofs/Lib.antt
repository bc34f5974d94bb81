-- What is proved about the copy, besides each function's promise.
-- Assumes nothing.
pub mod JoinLaws
pub mod RowLaws
pub mod AllLaws
pub mod OntoLaws
pub mod ScatterLaws
