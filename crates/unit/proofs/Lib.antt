-- The laws that several proofs cite.
pub mod Begins
pub mod Steps
pub mod ImageRoom
pub mod LineSteps
pub mod Named
