-- The laws that several proofs, and the crates above, cite.
pub mod Positions
pub mod Batches
pub mod Rising
pub mod Dropped
pub mod Requests
pub mod Examples
pub mod Typed
