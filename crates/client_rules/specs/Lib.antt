-- The definitions of the client's rules.
pub mod Rulings
pub mod Decisions
