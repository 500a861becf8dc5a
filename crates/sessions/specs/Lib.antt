-- The definitions of the unit's sessions as lists of demand 3's calls.
pub mod Sessions
pub mod Book
