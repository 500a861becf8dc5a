-- The laws of the rows.
pub mod Tests
pub mod General
pub mod InUse
pub mod Ranges
pub mod Records
pub mod State
pub mod Writing
pub mod Reading
pub mod Calls
