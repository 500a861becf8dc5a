-- The definitions of a request's step.
pub mod Steps
pub mod Mailboxes
pub mod Lent
