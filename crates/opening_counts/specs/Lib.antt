-- The definitions of the seven counts.
pub mod Counts
