-- The laws of the calendar.
pub mod Sums
pub mod Tables
pub mod Lengths
pub mod DateNumbers
pub mod EasterDays
pub mod ClosedDays
pub mod Search
pub mod Breaks
pub mod ExecutionDays
pub mod ValueDays
pub mod Examples
