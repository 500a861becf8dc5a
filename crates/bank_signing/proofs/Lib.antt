-- The laws that several proofs, and the crates above, cite.
pub mod Signed
pub mod Leaves
