-- The theorem over the table of the bank's cases.
pub mod Computing
pub mod Quick
pub mod Theorem
