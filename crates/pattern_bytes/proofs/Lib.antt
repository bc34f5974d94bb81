-- What is proved about patterns as bytes, besides each function's promise.
-- Assumes nothing.
pub mod RoomLaws
pub mod PassLaws
