-- The definitions of a client run.
pub mod Run
pub mod NextRun
pub mod Requests
