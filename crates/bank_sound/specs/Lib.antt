-- The one test of the rows, and the range that it holds a bank to.
pub mod Sound
