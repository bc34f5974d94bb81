-- `VerdictTheorem`, `NanTheorem` and `OverflowTheorem` say what the answer of a solve means, and `Examples` are worked runs.
-- The others are the laws that they and the crates above cite. Assumes nothing.
pub mod VerdictTheorem
pub mod NanTheorem
pub mod OverflowTheorem
pub mod Examples
pub mod VerdictCases
pub mod RunLaws
pub mod FloatLaws
pub mod SolveLaws
pub mod CheckOrder
