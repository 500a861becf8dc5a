-- The definitions of signings.
pub mod Signings
