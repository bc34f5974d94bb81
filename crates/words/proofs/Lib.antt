-- What is proved about words and about digits in a text, besides each function's promise.
-- Assumes nothing.
pub mod NanLaws
pub mod TextLaws
