-- What is proved about written patterns as bytes, besides each function's promise.
-- Assumes nothing.
pub mod WayLaws
pub mod CallLaws
pub mod Agreement
