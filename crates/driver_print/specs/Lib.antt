-- The definitions of the driver's print: lines, closing tables, the table of the counts.
pub mod Line
pub mod Tables
pub mod Counts
