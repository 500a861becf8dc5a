-- The definitions of the message crate.
pub mod Limits
pub mod Codes
pub mod OrderNumbers
pub mod Editions
pub mod Requests
pub mod Replies
pub mod Segments
pub mod Verdicts
