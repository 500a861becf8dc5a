-- The laws that several proofs, and the crates above, cite.
pub mod Rows
pub mod Counts
pub mod Session
pub mod Laws
pub mod Host
