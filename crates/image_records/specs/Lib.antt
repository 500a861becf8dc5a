-- The records of a session: the shapes of tests, where the numbers stand, and the conditions of one record.
pub mod Shapes
pub mod Layout
pub mod Records
