-- The definitions of the journal.
pub mod Events
pub mod Row
pub mod Places
pub mod Records
