-- The laws that several proofs, and the crates above, cite.
pub mod Accepted
pub mod Safety
pub mod Codes
pub mod Lent
pub mod Right
pub mod Kept
pub mod Entered
pub mod RequestBounds
pub mod WrittenReplies
