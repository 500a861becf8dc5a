-- The theorem over the table of the client's cases.
pub mod Computing
pub mod Theorem
