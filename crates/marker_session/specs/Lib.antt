-- The definitions of the marker: lines, calls, the session.
pub mod Lines
pub mod Memory
pub mod Marking
pub mod Session
