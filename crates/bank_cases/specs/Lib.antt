-- The bank's refusals and the host's numbers, row by row.
pub mod Table
