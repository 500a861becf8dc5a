-- The laws of the client's rules that its calls and its history rest on.
pub mod Replies
pub mod Causes
pub mod Late
pub mod Accepted
pub mod Feasible
