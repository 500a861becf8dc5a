-- The laws of counts, the theorems on where every opening ended and on the journal's events, and an example.
pub mod Laws
pub mod Rows
pub mod OpenRows
pub mod BookedRows
pub mod Moves
pub mod Theorems
pub mod OnSessions
pub mod JournalCounts
pub mod Example
