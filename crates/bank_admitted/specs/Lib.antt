-- What a session may hold.
pub mod Packed
pub mod State
pub mod Session
pub mod Counts
