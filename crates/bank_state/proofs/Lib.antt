-- The laws that several proofs, and the crates above, cite.
pub mod Tests
pub mod Found
pub mod Rows
pub mod Loops
pub mod Numbers
pub mod Stores
pub mod Drops
pub mod Cases
