-- What the tables of cases have in common.
pub mod Rows
