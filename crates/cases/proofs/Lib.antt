-- The theorem over the table of cases.
pub mod Quick
pub mod Theorem
