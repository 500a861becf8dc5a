-- The definitions of the events that a frame call enters.
pub mod Entries
pub mod Places
pub mod Order
