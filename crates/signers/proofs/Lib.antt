-- The laws of a set of signers, which the crates above cite.
pub mod Bits
pub mod Laws
pub mod Counts
pub mod Examples
