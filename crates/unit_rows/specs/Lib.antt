-- The definitions of the unit as numbers and bytes: codes, rows, lines.
pub mod Codes
pub mod Rows
pub mod Lines
