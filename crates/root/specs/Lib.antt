-- What the promises of `root` say, in the order to read it: what the root of a number is, the root as a function,
-- and the integer side, which only the contracts of the inner functions cite.
pub mod Root
pub mod Sqrt
pub mod Integers
