-- The definitions of the bank's two calls, and of what a frame call enters into the journal.
pub mod Call
pub mod Mailbox
pub mod Lent
pub mod Journal
