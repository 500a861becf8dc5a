-- What is asked of rows beside the bank that they are, a fresh session, and the sessions that calls leave.
pub mod Unused
pub mod Fresh
pub mod Reached
