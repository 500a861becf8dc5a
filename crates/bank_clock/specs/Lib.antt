-- The definition of how many a clock drops.
pub mod Idle
