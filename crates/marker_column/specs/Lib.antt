-- The definition of the third column.
pub mod Offset
