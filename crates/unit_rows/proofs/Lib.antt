-- The laws that several proofs, and the crates above, cite.
pub mod Rows
pub mod LineParts
