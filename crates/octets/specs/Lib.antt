-- The definitions of bytes as numbers, as fields and as texts, and of what a copy leaves.
pub mod Bytes
pub mod Texts
