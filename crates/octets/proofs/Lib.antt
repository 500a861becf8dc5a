-- The laws of tests and of numbers of bytes.
pub mod Tests
pub mod Numbers
