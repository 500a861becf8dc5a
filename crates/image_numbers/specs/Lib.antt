-- A session's numbers in the order of its image.
pub mod Table
pub mod Numbers
