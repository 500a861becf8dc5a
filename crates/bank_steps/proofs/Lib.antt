-- The laws that several proofs, and the crates above, cite.
pub mod Accepted
pub mod Safety
pub mod Numbering
pub mod Carried
pub mod Judged
pub mod Held
pub mod Range
pub mod Lent
pub mod Cases
