-- What is proved about places by marks, besides each function's promise.
-- Assumes nothing.
pub mod PlaceLaws
