-- Tables that hold, a frame call by the lengths lent to it, and what the calls compute with.
pub mod Tables
pub mod Calls
pub mod Computing
