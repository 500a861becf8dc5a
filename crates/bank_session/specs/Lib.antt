-- The definitions of the host's calls on a session, and of the counts after a frame call.
pub mod Counts
pub mod Session
