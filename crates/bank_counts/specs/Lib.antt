-- The seven counts by calls and replies, and what is said of them.
pub mod Counts
pub mod Statements
pub mod JournalCounts
