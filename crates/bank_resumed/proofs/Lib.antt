-- The theorem on a host's lists of calls, what it says of the bank's theorems, what its premise leaves free, and the
-- counts that a host is told.
pub mod Resumed
pub mod Bank
pub mod Guards
pub mod Reported
