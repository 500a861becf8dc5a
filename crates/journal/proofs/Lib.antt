-- The laws that several proofs, and the crates above, cite.
pub mod Bounds
pub mod Events
pub mod Rows
pub mod Mixed
pub mod Entering
pub mod Laws
pub mod Examples
pub mod Lookup
pub mod Copying
