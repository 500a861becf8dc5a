-- The laws that several proofs cite.
pub mod Clock
pub mod Texts
pub mod Kept
pub mod Calls
pub mod Lines
pub mod Parts
