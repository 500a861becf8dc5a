-- The laws that several proofs cite.
pub mod Digits
pub mod Texts
pub mod Signed
pub mod Rows
pub mod Lengths
pub mod Examples
