-- What the definitions of the factor's calls compute, what their steps touch, and what they leave.
-- Assumes nothing.
pub mod Examples
pub mod RowLaws
pub mod Finished
pub mod Stopped
pub mod Plain
