-- The definitions below the unit's calls: records, answers, and the client runs with the journal.
pub mod Records
pub mod Answers
pub mod State
