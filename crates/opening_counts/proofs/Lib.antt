-- The laws of the counts, which the crates above cite.
pub mod Room
pub mod Laws
