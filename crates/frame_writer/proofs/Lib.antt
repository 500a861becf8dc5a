-- The laws of writing: numbers and their bytes, the loops, what the answer tells.
pub mod Numbers
pub mod Loops
pub mod Written
