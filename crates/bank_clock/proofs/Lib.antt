-- The laws of the clock's steps, and of how many they drop.
pub mod Steps
pub mod Falls
