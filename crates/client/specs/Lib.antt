-- The definitions of the client's calls.
pub mod Calls
pub mod Journal
