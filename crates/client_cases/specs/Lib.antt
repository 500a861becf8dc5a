-- The client's numbers, steps and closing words, row by row.
pub mod Table
