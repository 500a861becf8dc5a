-- The laws of a session's numbers.
pub mod Places
pub mod Counts
pub mod Laws
pub mod Records
pub mod Loops
pub mod Journal
