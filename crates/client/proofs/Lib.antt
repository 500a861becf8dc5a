-- The laws of the client's calls that its functions and the crates above rest on.
pub mod Issues
pub mod Late
pub mod Journal
