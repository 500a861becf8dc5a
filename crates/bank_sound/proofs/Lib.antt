-- The laws of the test of the rows.
pub mod Test
pub mod Range
