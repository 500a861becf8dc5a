-- The law of the loops that keep rows.
pub mod Keeping
