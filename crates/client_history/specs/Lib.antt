-- The definitions of a client run's history and of its invariant.
pub mod History
pub mod Bounds
pub mod Invariant
pub mod InTurn
