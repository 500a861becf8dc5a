-- The definitions of demand 3.
pub mod Lists
pub mod Course
pub mod Terms
pub mod Demand3
pub mod Opening
pub mod Consequences
