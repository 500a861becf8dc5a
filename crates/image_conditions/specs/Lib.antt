-- The conditions of a session, by label.
pub mod Conditions
