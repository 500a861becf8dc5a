-- The definitions of the bank's state.
pub mod Limits
pub mod State
pub mod Rows
pub mod Store
pub mod Search
pub mod Numbers
pub mod Clock
