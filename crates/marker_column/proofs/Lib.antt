-- The laws of offsets, and of the column.
pub mod Offsets
