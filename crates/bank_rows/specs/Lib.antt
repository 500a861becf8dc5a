-- The bank's state in lent rows of numbers: their layout, the bank that they are, and what a call leaves in them.
pub mod Layout
pub mod Rows
pub mod Records
pub mod State
