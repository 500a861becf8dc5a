-- A host's calls to one session, and what is true of the lists that card 2 allows.
pub mod Calls
pub mod Resumed
pub mod Host
