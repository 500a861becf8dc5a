-- The definitions of openings.
pub mod Openings
