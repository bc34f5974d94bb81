-- What the program `roots` promises of its two working parts: the checker of a root, and the reader of a line.
-- The rest of the program is proved to be safe and to end.
pub mod Checker
pub mod Input
