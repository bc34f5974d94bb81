-- What is proved about a factor on bytes, besides each function's promise.
-- Assumes nothing.
pub mod CheckLaws
pub mod RoomLaws
