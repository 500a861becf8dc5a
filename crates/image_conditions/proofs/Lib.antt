-- The laws of the list, and how a change of the session keeps a condition.
pub mod Listed
pub mod Loops
pub mod Laws
pub mod Times
