-- What the contracts of the solvers' calls with N as a number and of their entry points cite.
-- Definitions only.
pub mod Ends
pub mod Numbers
