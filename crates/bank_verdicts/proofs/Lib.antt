-- The laws that several proofs, and the crates above, cite.
pub mod Lines
pub mod Sound
pub mod Signing
pub mod Series
pub mod Share
