-- The definitions of a set of signers.
pub mod Signers
