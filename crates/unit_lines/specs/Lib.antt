-- The definitions of the unit's lines over lists of records.
pub mod UnitLines
